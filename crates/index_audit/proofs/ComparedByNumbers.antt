-- Entries of an index: how a checkpoint is compared.
use mathlib.Core.Path.{◌≡◌, refl, sym}
use Prim.Native.Nat.{ℕ, suc, ◌*◌, ◌≤◌}
use mathlib.Core.Bool.{true, ◌&&◌, and_assoc, and-true}
use mathlib.Core.List.{List, [], ◌∷◌, ◌++◌}
use lib.ListN.{length, take, drop, length-drop}
use lib.Seq.{length-take-le}
use lib.Dec.{eqb}
use borrow.Author.Tests.{eqb-true, eq-eqb}
use native.Mathlib.Omega.{arith}
use Rattle.theory.proofs.Cases.{both}
use Rattle.place.specs.Lookup.{four_counts}
use Rattle.place.specs.declared.Place.{Place}
use Rattle.index_checkpoint.specs.Checkpoints.{width, place_of, checkpoint}
use Rattle.index_audit.specs.Audits.{same}

-- four numbers are the counts of a place
counts_of : (l : List ℕ) → length l ≡ width → four_counts (place_of l) ≡ l
counts_of [] h = absurd (omega arith)
counts_of (a ∷ []) h = absurd (omega arith)
counts_of (a ∷ b ∷ []) h = absurd (omega arith)
counts_of (a ∷ b ∷ c ∷ []) h = absurd (omega arith)
counts_of (a ∷ b ∷ c ∷ d ∷ []) h = refl
counts_of (a ∷ b ∷ c ∷ d ∷ e ∷ l) h = absurd (omega arith)

-- and so a checkpoint that the index has loses none of them
pub checkpoint_counts : (row : List ℕ) (k : ℕ) → width * suc k ≤ length row → four_counts (checkpoint row k) ≡ take width (drop (width * k) row)
checkpoint_counts row k h =
    let l : List ℕ = take width (drop (width * k) row) in
    counts_of l (length-take-le width (drop (width * k) row) (omega (arith, length-drop (width * k) row)))

-- ---- lists that are the same

pub same-sound : (xs ys : List ℕ) → same xs ys ≡ true → xs ≡ ys
same-sound [] [] e = refl
same-sound [] (y ∷ ys) e = let z : ◌≡◌ {A = ℕ} 0 1 = cc in absurd (omega arith)
same-sound (x ∷ xs) [] e = let z : ◌≡◌ {A = ℕ} 0 1 = cc in absurd (omega arith)
same-sound (x ∷ xs) (y ∷ ys) e =
    let b = both (eqb x y) (same xs ys) e in
    let h : x ≡ y = eqb-true x y b.0 in
    rw (h, same-sound xs ys b.1)

pub same_refl : (xs : List ℕ) → same xs xs ≡ true
same_refl [] = refl
same_refl (x ∷ xs) = rw (eq-eqb x x refl) (same_refl xs)

pub same_append : (xs ys us vs : List ℕ) → length xs ≡ length ys → same (xs ++ us) (ys ++ vs) ≡ same xs ys && same us vs
same_append [] [] us vs e = refl
same_append [] (y ∷ ys) us vs e = absurd (omega arith)
same_append (x ∷ xs) [] us vs e = absurd (omega arith)
same_append (x ∷ xs) (y ∷ ys) us vs e = rw (same_append xs ys us vs (omega arith)) (sym (and_assoc (eqb x y) (same xs ys) (same us vs)))

-- the tests that compare two places
pub same-places : (p q : Place)
    → eqb p.bytes q.bytes && (eqb p.units q.units && (eqb p.points q.points && eqb p.lines q.lines)) ≡ same (four_counts p) (four_counts q)
same-places p q = simp and-true
