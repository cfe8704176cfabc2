-- Classes of later bytes: 1, 2 and 3, and none besides.
use mathlib.Core.Path.{◌≡◌, subst}
use mathlib.Core.Logic.{◌⊎◌, inl, inr, ⊎_elim}
use Prim.Native.Nat.{ℕ, ◌≤◌, ◌<◌}
use mathlib.Core.Bool.{Bool, false, ◌&&◌, not}
use native.Mathlib.Omega.{arith}
use Rattle.theory.specs.Table.{Range, ◌to◌, within}
use Rattle.theory.proofs.Cases.{under}
use Rattle.theory.proofs.TableDivides.{in_under, in_over}
use Rattle.utf8.specs.Classes.{any_later}

-- what holds of each of them, and of a number that is none of them, holds of any
pub by-later : (P : ℕ → Type 0) (x : ℕ) → P 1 → P 2 → P 3 → ((x < 1) ⊎ (3 < x) → P x) → P x
by-later P x one two three other =
    under x 1 (λ h. other (inl h)) (λ l.
    under x 2 (λ h. subst P (omega arith) one) (λ m.
    under x 3 (λ h. subst P (omega arith) two) (λ n.
    under x 4 (λ h. subst P (omega arith) three) (λ o. other (inr o)))))

-- a range of them has no other
pub not-among : (r : Range) (x : ℕ) → 1 ≤ r.low → r.high ≤ 3 → (x < 1) ⊎ (3 < x) → within r x ≡ false
not-among r x l h o = ⊎_elim (λ a. in_under r x (omega arith)) (λ a. in_over r x (omega arith)) o

pub none_of : (x : ℕ) → (x ≡ 1 → ⊥) → (x ≡ 2 → ⊥) → (x ≡ 3 → ⊥) → (x < 1) ⊎ (3 < x)
none_of x one two three = under x 1 inl (λ l. inr (omega (arith, one, two, three)))

-- a test that bars those that a range of them lacks leaves the range
pub left_by : (r : Range) (bars : ℕ → Bool) (x : ℕ) → 1 ≤ r.low → r.high ≤ 3 → not (bars 1) ≡ within r 1 → not (bars 2) ≡ within r 2
    → not (bars 3) ≡ within r 3 → within any_later x && not (bars x) ≡ within r x
left_by r bars x l h one two three =
    by-later (λ k. within any_later k && not (bars k) ≡ within r k) x one two three
    (λ o. rw (not-among any_later x (omega arith) (omega arith) o, not-among r x l h o))

-- a range of one number has no other
pub not-only : (k x : ℕ) → (x ≡ k → ⊥) → within (k to k) x ≡ false
not-only k x n = under x k (λ h. in_under (k to k) x h) (λ l. in_over (k to k) x (omega (arith, n)))
