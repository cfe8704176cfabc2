-- Scalar values, and the forms in which a text of them is kept.
use Rattle.std.specs.Prelude.{ℕ, Bool, cond, ◌&&◌, ◌||◌, List, [], ◌∷◌, ltb, Option, None, Some}
use Rattle.theory.specs.Reader.{Reader, Segment, body, first, cut}
use Rattle.theory.specs.Table.{Kind, is_damage}
use Rattle.theory.specs.Tally.{written, size}
use Rattle.terms.specs.declared.Point.{Point}

-- 0 to 0xD7FF, or 0xE000 to U+10FFFF
abbrev pub is_scalar : ℕ → Bool
is_scalar c = ltb c 0xD800 || ltb 0xDFFF c && ltb c 0x110000

-- a form: its reader, the number that the elements of a whole segment stand for, and the elements of a scalar value
pub record Form : Type 0 where
  pub look : Reader Kind
  pub value : List ℕ → ℕ
  pub write : ℕ → List ℕ

-- U+FFFD stands for damage
abbrev pub replacement : ℕ
replacement = 0xFFFD

-- THE REPAIRED FORM of a text: whole segments as they are, U+FFFD for each damage
abbrev pub mend : Form → Segment Kind → List ℕ
mend F s = cond (is_damage s.tag) (F.write replacement) (body s)

abbrev pub repaired : Form → List ℕ → List ℕ
repaired F text = written (mend F) (cut F.look text)

-- A TEXT IN ANOTHER FORM: each segment's code point, U+FFFD for damage, in the other form's elements
abbrev pub point_of : Form → Segment Kind → ℕ
point_of F s = cond (is_damage s.tag) replacement (F.value (body s))

abbrev pub converted : Form → Form → List ℕ → List ℕ
converted F G text = written (λ s. G.write (point_of F s)) (cut F.look text)

-- THE CODE POINT THAT STANDS FIRST in a text, if there is one, and how many elements it takes
abbrev pub first_point : Form → List ℕ → Option Point
first_point F [] = None
first_point F (x ∷ xs) = Some (record { number = point_of F (first F.look x xs); size = size (first F.look x xs) })

-- what is told of it: both are 0 where there is none
abbrev pub told_point : Option Point → List ℕ
told_point None = 0 ∷ 0 ∷ []
told_point (Some p) = p.number ∷ p.size ∷ []

abbrev pub point_says : Form → List ℕ → List ℕ
point_says F [] = 0 ∷ 0 ∷ []
point_says F (x ∷ xs) = point_of F (first F.look x xs) ∷ size (first F.look x xs) ∷ []
