-- The code point that stands first in a byte text with no damage: its first byte tells how many bytes it has.
use mathlib.Core.Path.{◌≡◌, refl, sym, ap, ◌∙◌}
use Prim.Native.Nat.{ℕ, suc, ◌≤◌, ◌<◌}
use mathlib.Core.List.{List, [], ◌∷◌}
use lib.ListN.{length, get_or, take}
use lib.Seq.{length-take-le}
use native.Mathlib.Omega.{arith}
use Rattle.theory.specs.Reader.{first, rest, cut}
use Rattle.theory.specs.Table.{whole}
use Rattle.theory.specs.Sequence.{Sequence}
use Rattle.theory.proofs.Divisions.{cut-cons}
use Rattle.theory.proofs.SequencesAreWhole.{by_rows, whole-sequence}
use Rattle.terms.specs.Form.{point_says}
use Rattle.terms.specs.Strict.{damages}
use Rattle.terms.proofs.ConvertsBack.{AllWhole, none-whole}
use Rattle.terms.proofs.PointTold.{elements, value_of}
use Rattle.utf8.specs.Bytes.{rows, lone_byte, bytes}
use Rattle.utf8.specs.Scalar.{number, utf8}
use Rattle.utf8.proofs.RowsOfBytes.{rows-sound, bytes_division}
use Rattle.convert_from_utf8.specs.Inside.Spell.{wants}
use Rattle.convert_from_utf8.proofs.SpelledByKind.{wants-none, wants-one, wants-two, wants-three}

-- ---- a well-formed sequence has as many bytes as its first one wants

abbrev Wanted : List ℕ → Type 0
Wanted [] = Unit {0}
Wanted (x ∷ xs) = wants x ≡ length xs

wanted : (xs : List ℕ) → Sequence rows xs → Wanted xs
unfolding rows
wanted = by_rows rows Wanted
    (λ x a. wants-none x (omega arith))
    (λ x a y b. wants-one x (omega arith) (omega arith))
    (λ x a y b z d. wants-two x (omega arith) (omega arith))
    (λ x a y b z d. wants-two x (omega arith) (omega arith))
    (λ x a y b z d. wants-two x (omega arith) (omega arith))
    (λ x a y b z d. wants-two x (omega arith) (omega arith))
    (λ x a y b z d t e. wants-three x (omega arith))
    (λ x a y b z d t e. wants-three x (omega arith))
    (λ x a y b z d t e. wants-three x (omega arith))

whole-wants : (x : ℕ) (xs : List ℕ) → (bytes x xs).tag ≡ whole → wants x ≡ (bytes x xs).more
unfolding bytes
whole-wants x xs w =
    wanted (x ∷ take (bytes x xs).more xs) (whole-sequence rows lone_byte rows-sound x xs w)
    ∙ length-take-le (bytes x xs).more xs (bytes_division.fits x xs)

-- so many bytes are there, and the code point is theirs
pub record Told (text : List ℕ) (n : ℕ) : Type 0 where
  pub inside : n ≤ length text
  pub says : number (elements text 0 n) ∷ n ∷ [] ≡ point_says utf8 text

pub first-told : (text : List ℕ) → 0 < length text → damages bytes text ≡ [] → (k : ℕ) → wants (get_or text 0 0) ≡ k → Told text (suc k)
first-told [] some none k e = absurd (omega arith)
first-told (x ∷ xs) some none k e =
    let v : AllWhole (first bytes x xs ∷ cut bytes (rest bytes x xs)) = rw (cut-cons bytes x xs) at (none-whole 0 (cut bytes (x ∷ xs)) none) in
    let m : (bytes x xs).more ≡ k = sym (whole-wants x xs v.0) ∙ e in
    let l : k ≤ length xs = rw m at (bytes_division.fits x xs) in
    record {
      inside = omega arith;
      says = ap (λ (c : ℕ). c ∷ suc k ∷ []) (value_of number (x ∷ xs) (suc k) (suc k) refl (omega arith)) ∙ rw (v.0, m, length-take-le k xs l);
    }
