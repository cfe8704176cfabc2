-- The paper's marked examples, and one of lines, as a single statement about the definitions.
use Rattle.std.specs.Prelude.{◌≡◌, ℕ, List, [], ◌∷◌, map}
use Rattle.theory.specs.Tally.{written}
use Rattle.theory.specs.Reader.{Reader, cut, parts}
use Rattle.theory.specs.Table.{Kind, cause_of}
use Rattle.theory.specs.Place.{Found, inside, past, places, plain}
use Rattle.terms.specs.Form.{Form, point_of, repaired, converted}
use Rattle.terms.specs.Strict.{damages, check_says}
use Rattle.utf8.specs.Bytes.{bytes}
use Rattle.utf8.specs.Scalar.{utf8}
use Rattle.utf16.specs.Units.{units}
use Rattle.utf16.specs.Scalar.{utf16}
use Rattle.place.specs.Measures.{place, ruler, reader}
use Rattle.place.specs.declared.Place.{Place}
use Rattle.index_checkpoint.specs.Checkpoints.{index_of}

-- the starts, lengths and causes of a text's damages
abbrev hurt : Reader Kind → List ℕ → List (ℕ × ℕ × ℕ)
hurt look text = map (λ e. (e.start, e.long, cause_of e.tag)) (damages look text)

-- the code points of a text, U+FFFD for damage
abbrev points_of : Form → List ℕ → List ℕ
points_of F text = written (λ s. point_of F s ∷ []) (cut F.look text)

-- the places of a text, asked for by one of the measures
abbrev by : (Place → ℕ) → ℕ → List ℕ → Found Place
by measure offset text = plain reader ruler measure offset text

abbrev mixed : List ℕ
mixed = 0x41 ∷ 0xE2 ∷ 0x82 ∷ 0xAC ∷ 0xF0 ∷ 0x9F ∷ 0x9A ∷ 0x86 ∷ 0x80 ∷ 0x0A ∷ 0x42 ∷ []

-- lines as senders write them: 0D 0A, a lone 0D, 0B, which ends none, C2 85, E2 80 A9, a damaged C2, and a 0D that ends the text
abbrev sent : List ℕ
sent = 0x0D ∷ 0x0A ∷ 0x0D ∷ 0x0B ∷ 0xC2 ∷ 0x85 ∷ 0xE2 ∷ 0x80 ∷ 0xA9 ∷ 0xC2 ∷ 0x0D ∷ []

pub record Marked : Type 0 where
  pub empty-checks : check_says bytes [] ≡ 0 ∷ []
  pub empty-checkpoint : index_of [] ≡ 0 ∷ 0 ∷ 0 ∷ 0 ∷ []
  pub euro : points_of utf8 (0xE2 ∷ 0x82 ∷ 0xAC ∷ []) ≡ 0x20AC ∷ []
  pub train : points_of utf8 (0xF0 ∷ 0x9F ∷ 0x9A ∷ 0x86 ∷ []) ≡ 0x1F686 ∷ []
  pub train-units : converted utf8 utf16 (0xF0 ∷ 0x9F ∷ 0x9A ∷ 0x86 ∷ []) ≡ 0xD83D ∷ 0xDE86 ∷ []
  pub last-point : points_of utf8 (0xF4 ∷ 0x8F ∷ 0xBF ∷ 0xBF ∷ []) ≡ 0x10FFFF ∷ []
  pub last-units : converted utf8 utf16 (0xF4 ∷ 0x8F ∷ 0xBF ∷ 0xBF ∷ []) ≡ 0xDBFF ∷ 0xDFFF ∷ []
  pub past-the-last : hurt bytes (0xF4 ∷ 0x90 ∷ 0x80 ∷ 0x80 ∷ []) ≡ (0, 1, 3) ∷ (1, 1, 1) ∷ (2, 1, 1) ∷ (3, 1, 1) ∷ []
  pub four-too-long : hurt bytes (0xF0 ∷ 0x8F ∷ 0xBF ∷ 0xBF ∷ []) ≡ (0, 1, 3) ∷ (1, 1, 1) ∷ (2, 1, 1) ∷ (3, 1, 1) ∷ []
  pub half : hurt bytes (0xED ∷ 0xA0 ∷ 0x80 ∷ []) ≡ (0, 1, 3) ∷ (1, 1, 1) ∷ (2, 1, 1) ∷ []
  pub three-too-long : hurt bytes (0xE0 ∷ 0x9F ∷ 0xBF ∷ []) ≡ (0, 1, 3) ∷ (1, 1, 1) ∷ (2, 1, 1) ∷ []
  pub two-too-long : hurt bytes (0xC0 ∷ 0x80 ∷ []) ≡ (0, 1, 2) ∷ (1, 1, 1) ∷ []
  pub stopped : hurt bytes (0xE2 ∷ 0x82 ∷ 0x41 ∷ []) ≡ (0, 2, 3) ∷ []
  pub stopped-points : points_of utf8 (0xE2 ∷ 0x82 ∷ 0x41 ∷ []) ≡ 0xFFFD ∷ 0x41 ∷ []
  pub ended : hurt bytes (0xF0 ∷ 0x9F ∷ 0x9A ∷ []) ≡ (0, 3, 4) ∷ []
  pub repairs :
      repaired utf8 (0x61 ∷ 0xF1 ∷ 0x80 ∷ 0x80 ∷ 0xE1 ∷ 0x80 ∷ 0xC2 ∷ 0x62 ∷ 0x80 ∷ 0x63 ∷ 0x80 ∷ 0xBF ∷ 0x64 ∷ [])
      ≡ 0x61 ∷ 0xEF ∷ 0xBF ∷ 0xBD ∷ 0xEF ∷ 0xBF ∷ 0xBD ∷ 0xEF ∷ 0xBF ∷ 0xBD ∷ 0x62 ∷ 0xEF ∷ 0xBF ∷ 0xBD ∷ 0x63 ∷ 0xEF ∷ 0xBF ∷ 0xBD ∷ 0xEF ∷ 0xBF ∷ 0xBD ∷ 0x64 ∷ []
  pub repairs-points :
      points_of utf8 (0x61 ∷ 0xF1 ∷ 0x80 ∷ 0x80 ∷ 0xE1 ∷ 0x80 ∷ 0xC2 ∷ 0x62 ∷ 0x80 ∷ 0x63 ∷ 0x80 ∷ 0xBF ∷ 0x64 ∷ [])
      ≡ 0x61 ∷ 0xFFFD ∷ 0xFFFD ∷ 0xFFFD ∷ 0x62 ∷ 0xFFFD ∷ 0x63 ∷ 0xFFFD ∷ 0xFFFD ∷ 0x64 ∷ []
  pub repairs-damages :
      hurt bytes (0x61 ∷ 0xF1 ∷ 0x80 ∷ 0x80 ∷ 0xE1 ∷ 0x80 ∷ 0xC2 ∷ 0x62 ∷ 0x80 ∷ 0x63 ∷ 0x80 ∷ 0xBF ∷ 0x64 ∷ [])
      ≡ (1, 3, 3) ∷ (4, 2, 3) ∷ (6, 1, 3) ∷ (8, 1, 1) ∷ (10, 1, 1) ∷ (11, 1, 1) ∷ []
  pub unpaired : points_of utf16 (0xD83D ∷ 0xD83D ∷ 0xDE86 ∷ []) ≡ 0xFFFD ∷ 0x1F686 ∷ []
  pub unpaired-damages : hurt units (0xD83D ∷ 0xD83D ∷ 0xDE86 ∷ []) ≡ (0, 1, 3) ∷ []
  pub swapped : points_of utf16 (0xDE86 ∷ 0xD83D ∷ []) ≡ 0xFFFD ∷ 0xFFFD ∷ []
  pub swapped-damages : hurt units (0xDE86 ∷ 0xD83D ∷ []) ≡ (0, 1, 1) ∷ (1, 1, 4) ∷ []
  pub mixed-damages : hurt bytes mixed ≡ (8, 1, 1) ∷ []
  pub mixed-places :
      places reader ruler mixed
      ≡ place 0 0 0 0 ∷ place 1 1 1 0 ∷ place 4 2 2 0 ∷ place 8 4 3 0 ∷ place 9 5 4 0 ∷ place 10 6 5 1 ∷ place 11 7 6 1 ∷ []
  pub unit-inside : by (λ p. p.units) 3 mixed ≡ inside
  pub byte_inside : by (λ p. p.bytes) 2 mixed ≡ inside
  pub byte_past : by (λ p. p.bytes) 12 mixed ≡ past
  pub line-past : by (λ p. p.lines) 2 mixed ≡ past
  pub sent-places :
      places reader ruler sent
      ≡ place 0 0 0 0 ∷ place 1 1 1 0 ∷ place 2 2 2 1 ∷ place 3 3 3 2 ∷ place 4 4 4 2 ∷ place 6 5 5 3 ∷ place 9 6 6 4 ∷ place 10 7 7 4 ∷ place 11 8 8 5 ∷ []
  pub sent-left : (parts reader sent).left ≡ 0x0D ∷ []
