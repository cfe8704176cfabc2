-- A rule of a table, from one test that is computed over all of its entries.
use mathlib.Core.Path.{◌≡◌, subst}
use Prim.Native.Nat.{ℕ, zero, suc, ◌+◌, ◌<◌}
use mathlib.Core.Bool.{Bool, true, ◌&&◌}
use mathlib.Core.List.{List, [], ◌∷◌}
use lib.ListN.{length, get_or}
use native.Mathlib.Omega.{arith}
use Rattle.theory.proofs.Cases.{both, add_swap}

module _ {A : Type 0} (test : ℕ → A → Bool) where
  -- it passes at each entry, with its place counted from i
  abbrev pub every_from : ℕ → List A → Bool
  every_from i [] = true
  every_from i (x ∷ xs) = test i x && every_from (suc i) xs

  from_place : (xs : List A) (i : ℕ) → every_from i xs ≡ true → (k : ℕ) (d : A) → k < length xs → test (i + k) (get_or xs k d) ≡ true
  from_place [] i e k d h = absurd (omega arith)
  from_place (x ∷ xs) i e zero d h = subst (λ (n : ℕ). test n x ≡ true) (omega arith) (both (test i x) (every_from (suc i) xs) e).0
  from_place (x ∷ xs) i e (suc k) d h =
      subst (λ (n : ℕ). test n (get_or xs k d) ≡ true) (add_swap i k) (from_place xs (suc i) (both (test i x) (every_from (suc i) xs) e).1 k d (omega arith))

  -- so it passes at each place of the table
  pub at_entry : (xs : List A) → every_from 0 xs ≡ true → (k : ℕ) (d : A) → k < length xs → test k (get_or xs k d) ≡ true
  at_entry xs e k d h = subst (λ (n : ℕ). test n (get_or xs k d) ≡ true) (omega arith) (from_place xs 0 e k d h)
