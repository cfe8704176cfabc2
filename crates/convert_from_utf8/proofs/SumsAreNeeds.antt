-- The need of a byte text with no damage, as units and as code points: the sums of its bytes; and in a page, as code points.
use mathlib.Core.Path.{◌≡◌, refl, sym, ◌∙◌}
use Prim.Native.Nat.{ℕ, ◌+◌, ◌≤◌}
use mathlib.Core.List.{List, [], ◌∷◌}
use lib.ListN.{length}
use lib.Dec.{ltb}
use native.Mathlib.Omega.{arith}
use Rattle.theory.specs.Reader.{Segment, cut}
use Rattle.theory.specs.Table.{Kind}
use Rattle.theory.specs.Tally.{total}
use Rattle.theory.proofs.Cases.{split}
use Rattle.theory.proofs.Divisions.{length-written}
use Rattle.terms.specs.Form.{point_of, converted}
use Rattle.terms.specs.Strict.{damages}
use Rattle.terms.proofs.ConvertsBack.{none-whole}
use Rattle.utf8.specs.Bytes.{bytes}
use Rattle.utf8.specs.Scalar.{utf8}
use Rattle.utf8_count.specs.Counts.{start_of, four_of}
use Rattle.utf8_count.proofs.SumsOfSegments.{units_of, BySegments, by_wholes}
use Rattle.utf16.specs.Scalar.{pair, utf16}
use Rattle.code_points.specs.Points.{code_points}
use Rattle.page.specs.Paged.{place_of, paged}

pair-long : (c : ℕ) → length (pair c) ≡ units_of c
pair-long c = split (ltb c 0x10000) (λ e. rw e) (λ e. rw e)

pairs_long : (ss : List (Segment Kind)) → total (λ s. length (pair (point_of utf8 s))) ss ≡ total (λ s. units_of (point_of utf8 s)) ss
pairs_long [] = refl
pairs_long (s ∷ ss) = omega (arith, pair-long (point_of utf8 s), pairs_long ss)

module _ (text : List ℕ) (none : damages bytes text ≡ []) where
  sums : BySegments text
  sums = by_wholes text (none-whole 0 (cut bytes text) none)

  pub units-sums : total start_of text + total four_of text ≡ length (converted utf8 utf16 text)
  units-sums = sums.units-are ∙ sym (length-written (λ s. pair (point_of utf8 s)) (cut bytes text) ∙ pairs_long (cut bytes text))

  pub points-sums : total start_of text ≡ length (converted utf8 code_points text)
  points-sums = sums.starts-are ∙ sym (length-written (λ s. point_of utf8 s ∷ []) (cut bytes text))

  pub sums-few : total start_of text + total four_of text ≤ length text
  sums-few = sums.few

-- in a page, too, each code point takes one place
pub places-points : (table text : List ℕ) → length (converted utf8 (paged table) text) ≡ length (converted utf8 code_points text)
places-points table text =
    length-written (λ s. place_of (point_of utf8 s) table ∷ []) (cut bytes text) ∙ sym (length-written (λ s. point_of utf8 s ∷ []) (cut bytes text))
