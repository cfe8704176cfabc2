-- UTF-16 is a faithful form: a scalar value is encoded as one unit or a pair, and each of these stands for a scalar value.
use mathlib.Core.Path.{◌≡◌, refl, ◌∙◌}
use mathlib.Core.Logic.{inl, inr, ⊎_elim}
use Prim.Native.Nat.{ℕ, ◌+◌, ◌-◌, ◌/◌, ◌%◌, ◌≤◌, ◌<◌}
use mathlib.Core.Bool.{true}
use mathlib.Core.List.{List, [], ◌∷◌}
use borrow.Author.Tests.{lt-ltb, le-ltb}
use native.Mathlib.Omega.{arith}
use Rattle.theory.specs.Sequence.{Sequence}
use Rattle.theory.proofs.Cases.{under}
use Rattle.theory.proofs.SequencesAreWhole.{by_rows}
use Rattle.terms.specs.Form.{is_scalar}
use Rattle.terms.proofs.FaithfulForms.{is_scalar_lem, of_scalar, Faithful, Kept, Encoded, by_row, table-faithful}
use Rattle.utf16.specs.Units.{rows, lone_unit, units}
use Rattle.utf16.specs.Scalar.{number, pair, utf16}
use Rattle.utf16.proofs.RowsOfUnits.{rows-sound}

-- ---- the units of a number

module _ (c : ℕ) where
  abbrev pub two : List ℕ
  two = (0xD800 + (c - 0x10000) / 0x400) ∷ (0xDC00 + (c - 0x10000) % 0x400) ∷ []

  pub is_one : c < 0x10000 → pair c ≡ c ∷ []
  is_one h = rw (lt-ltb c 0x10000 h)

  pub is-two : 0x10000 ≤ c → pair c ≡ two
  is-two l = rw (le-ltb c 0x10000 l)

-- ---- a scalar value is encoded by a row's units, and decoded again

encoded : (c : ℕ) → is_scalar c ≡ true → Encoded utf16 rows lone_unit c
unfolding rows
encoded c s = ⊎_elim
    (λ h. by_row utf16 rows lone_unit c 0 (c ∷ []) (is_one c (omega arith)) refl (omega arith))
    (λ h. under c 0x10000
    (λ l. by_row utf16 rows lone_unit c 2 (c ∷ []) (is_one c l) refl (omega arith))
    (λ l. by_row utf16 rows lone_unit c 1 (two c) (is-two c l) (omega arith) (omega arith)))
    (of_scalar c s)

-- ---- a unit or a pair stands for a scalar value, which is encoded as it

kept : (xs : List ℕ) → Sequence rows xs → Kept utf16 xs
unfolding rows
kept = by_rows rows (Kept utf16)
    (λ x a. record { scalar = is_scalar_lem x (inl (omega arith)); again = is_one x (omega arith) })
    (λ x a y b.
    let c : ℕ = number (x ∷ y ∷ []) in
    let p : 0xD800 + (c - 0x10000) / 0x400 ≡ x = omega arith in
    let q : 0xDC00 + (c - 0x10000) % 0x400 ≡ y = omega arith in
    record { scalar = is_scalar_lem c (inr (omega arith)); again = is-two c (omega arith) ∙ λ i. p i ∷ q i ∷ [] })
    (λ x a. record { scalar = is_scalar_lem x (inr (omega arith)); again = is_one x (omega arith) })

pub utf16-faithful : Faithful utf16
unfolding units
utf16-faithful = table-faithful utf16 rows lone_unit refl rows-sound kept encoded
