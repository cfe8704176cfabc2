-- UTF-8 is a faithful form: a scalar value is encoded as a sequence of some row, and a row's sequence stands for a scalar value.
use mathlib.Core.Path.{◌≡◌, refl, ◌∙◌}
use mathlib.Core.Logic.{◌⊎◌, inl, inr, ⊎_elim}
use Prim.Native.Nat.{ℕ, ◌+◌, ◌/◌, ◌%◌, ◌≤◌, ◌<◌}
use mathlib.Core.Bool.{true}
use mathlib.Core.List.{List, [], ◌∷◌}
use borrow.Author.Tests.{lt-ltb, le-ltb}
use native.Mathlib.Omega.{arith}
use Rattle.theory.specs.Table.{◌to◌}
use Rattle.theory.specs.Sequence.{Sequence}
use Rattle.theory.proofs.Cases.{under}
use Rattle.theory.proofs.SequencesAreWhole.{Bounds, InRow, by_rows}
use Rattle.terms.specs.Form.{is_scalar}
use Rattle.terms.proofs.FaithfulForms.{is_scalar_lem, of_scalar, Faithful, Kept, Encoded, by_row, table-faithful}
use Rattle.utf8.specs.Bytes.{next, rows, lone_byte, bytes}
use Rattle.utf8.specs.Scalar.{number, later, sequence, utf8}
use Rattle.utf8.proofs.RowsOfBytes.{rows-sound}

-- ---- the sequence of a number, by its length

module _ (c : ℕ) where
  abbrev pub two : List ℕ
  two = (0xC0 + c / 0x40) ∷ later c ∷ []

  abbrev pub three : List ℕ
  three = (0xE0 + c / 0x1000) ∷ later (c / 0x40) ∷ later c ∷ []

  abbrev pub four : List ℕ
  four = (0xF0 + c / 0x40000) ∷ later (c / 0x1000) ∷ later (c / 0x40) ∷ later c ∷ []

  pub is_one : c < 0x80 → sequence c ≡ c ∷ []
  is_one h = rw (lt-ltb c 0x80 h)

  pub is-two : 0x80 ≤ c → c < 0x800 → sequence c ≡ two
  is-two l h = rw (le-ltb c 0x80 l, lt-ltb c 0x800 h)

  pub is-three : 0x800 ≤ c → c < 0x10000 → sequence c ≡ three
  is-three l h = rw (le-ltb c 0x80 (omega arith), le-ltb c 0x800 l, lt-ltb c 0x10000 h)

  pub is-four : 0x10000 ≤ c → sequence c ≡ four
  is-four l = rw (le-ltb c 0x80 (omega arith), le-ltb c 0x800 (omega arith), le-ltb c 0x10000 l)

-- ---- a scalar value is encoded by a sequence of some row, and decoded again

-- a later byte keeps its low 6 bits
low_bits : (n : ℕ) → later n % 0x40 ≡ n % 0x40
low_bits n = omega arith

module _ (c k : ℕ) where
  by_one : (c < 0x80) × InRow rows k (c ∷ []) → Encoded utf8 rows lone_byte c
  by_one h = by_row utf8 rows lone_byte c k (c ∷ []) (is_one c h.0) (omega arith) h.1

  by_two : (0x80 ≤ c) × (c < 0x800) × InRow rows k (two c) → Encoded utf8 rows lone_byte c
  by_two h = by_row utf8 rows lone_byte c k (two c) (is-two c h.0 h.1) (omega arith) h.2

  by_three : (0x800 ≤ c) × (c < 0x10000) × InRow rows k (three c) → Encoded utf8 rows lone_byte c
  by_three h = by_row utf8 rows lone_byte c k (three c) (is-three c h.0 h.1) (omega arith) h.2

  by-four : (0x10000 ≤ c) × (c < 0x110000) × InRow rows k (four c) → Encoded utf8 rows lone_byte c
  by-four h =
      let e : (0xF0 + c / 0x40000) % 0x08 ≡ c / 0x40000 = omega arith in
      by_row utf8 rows lone_byte c k (four c) (is-four c h.0) (rw (e, low_bits (c / 0x1000), low_bits (c / 0x40), low_bits c) (omega arith)) h.2

-- the row of each scalar value
encoded : (c : ℕ) → is_scalar c ≡ true → Encoded utf8 rows lone_byte c
unfolding rows
encoded c s =
    under c 0x80 (λ h. by_one c 0 (omega arith)) (λ l.
    under c 0x800 (λ h. by_two c 1 (omega arith)) (λ m.
    ⊎_elim
    (λ d. under c 0x1000 (λ h. by_three c 2 (omega arith)) (λ n. under c 0xD000 (λ h. by_three c 3 (omega arith)) (λ o. by_three c 4 (omega arith))))
    (λ d.
    under c 0x10000 (λ h. by_three c 5 (omega arith)) (λ n.
    under c 0x40000 (λ h. by-four c 6 (omega arith)) (λ o.
    under c 0x100000 (λ h. by-four c 7 (omega arith)) (λ p. by-four c 8 (omega arith)))))
    (of_scalar c s)))

-- ---- a sequence stands for a scalar value, which is encoded as the sequence

kept-one : (x : ℕ) → Bounds (0x00 to 0x7F ∷ []) (x ∷ []) → Kept utf8 (x ∷ [])
kept-one x b =
    let c : ℕ = number (x ∷ []) in
    let p : c ≡ x = omega arith in
    record { scalar = is_scalar_lem c (inl (omega arith)); again = is_one c (omega arith) ∙ λ i. p i ∷ [] }

kept-two : (x y : ℕ) → Bounds (0xC2 to 0xDF ∷ next ∷ []) (x ∷ y ∷ []) → Kept utf8 (x ∷ y ∷ [])
kept-two x y b =
    let c : ℕ = number (x ∷ y ∷ []) in
    let p : 0xC0 + c / 0x40 ≡ x = omega arith in
    let q : later c ≡ y = omega arith in
    record { scalar = is_scalar_lem c (inl (omega arith)); again = is-two c (omega arith) (omega arith) ∙ λ i. p i ∷ q i ∷ [] }

-- the rows' ranges for the second byte leave out what would be too low, too high or a half of a pair
kept-three : (x y z : ℕ) → Bounds (0xE0 to 0xEF ∷ next ∷ next ∷ []) (x ∷ y ∷ z ∷ []) → 0x800 ≤ number (x ∷ y ∷ z ∷ [])
    → (number (x ∷ y ∷ z ∷ []) < 0xD800) ⊎ (0xDFFF < number (x ∷ y ∷ z ∷ [])) → Kept utf8 (x ∷ y ∷ z ∷ [])
kept-three x y z b low s =
    let c : ℕ = number (x ∷ y ∷ z ∷ []) in
    let h : c < 0x10000 = omega arith in
    let p : 0xE0 + c / 0x1000 ≡ x = omega arith in
    let q : later (c / 0x40) ≡ y = omega arith in
    let r : later c ≡ z = omega arith in
    record { scalar = is_scalar_lem c (⊎_elim inl (λ l. inr (l, omega arith)) s); again = is-three c low h ∙ λ i. p i ∷ q i ∷ r i ∷ [] }

kept-four : (x y z t : ℕ) → Bounds (0xF0 to 0xF4 ∷ next ∷ next ∷ next ∷ []) (x ∷ y ∷ z ∷ t ∷ [])
    → 0x10000 ≤ number (x ∷ y ∷ z ∷ t ∷ []) → number (x ∷ y ∷ z ∷ t ∷ []) < 0x110000 → Kept utf8 (x ∷ y ∷ z ∷ t ∷ [])
kept-four x y z t b low high =
    let c : ℕ = number (x ∷ y ∷ z ∷ t ∷ []) in
    let p : 0xF0 + c / 0x40000 ≡ x = omega arith in
    let q : later (c / 0x1000) ≡ y = omega arith in
    let r : later (c / 0x40) ≡ z = omega arith in
    let s : later c ≡ t = omega arith in
    record { scalar = is_scalar_lem c (inr (omega arith, high)); again = is-four c low ∙ λ i. p i ∷ q i ∷ r i ∷ s i ∷ [] }

-- row by row
kept : (xs : List ℕ) → Sequence rows xs → Kept utf8 xs
unfolding rows
kept = by_rows rows (Kept utf8)
    (λ x a. kept-one x (omega arith))
    (λ x a y b. kept-two x y (omega arith))
    (λ x a y b z d. kept-three x y z (omega arith) (omega arith) (inl (omega arith)))
    (λ x a y b z d. kept-three x y z (omega arith) (omega arith) (inl (omega arith)))
    (λ x a y b z d. kept-three x y z (omega arith) (omega arith) (inl (omega arith)))
    (λ x a y b z d. kept-three x y z (omega arith) (omega arith) (inr (omega arith)))
    (λ x a y b z d t e. kept-four x y z t (omega arith) (omega arith) (omega arith))
    (λ x a y b z d t e. kept-four x y z t (omega arith) (omega arith) (omega arith))
    (λ x a y b z d t e. kept-four x y z t (omega arith) (omega arith) (omega arith))

pub utf8-faithful : Faithful utf8
unfolding bytes
utf8-faithful = table-faithful utf8 rows lone_byte refl rows-sound kept encoded
