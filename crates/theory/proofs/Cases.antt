-- Tests and lists: what the kit's libraries lack and every crate's laws use.
use mathlib.Core.Path.{◌≡◌, refl}
use Prim.Native.Nat.{ℕ, zero, suc, ◌+◌, ◌≤◌, ◌<◌}
use mathlib.Core.Bool.{Bool, true, false, cond, ◌&&◌, and-eq-true_iff}
use mathlib.Core.List.{List, [], ◌∷◌}
use lib.ListN.{drop}
use lib.Dec.{ltb}
use borrow.Author.Tests.{ltb-true, ltb-false}
use native.Mathlib.Omega.{arith}

-- a test's two answers, each with its equation
pub split {ℓ} : {X : Type ℓ} (b : Bool) → (b ≡ true → X) → (b ≡ false → X) → X
split true f g = f refl
split false f g = g refl

-- a number and a bound
pub under {ℓ} : {X : Type ℓ} (n bound : ℕ) → (n < bound → X) → (bound ≤ n → X) → X
under n bound f g = split (ltb n bound) (λ e. f (ltb-true n bound e)) (λ e. g (ltb-false n bound e))

-- both halves of a test
pub both : (a b : Bool) → a && b ≡ true → (a ≡ true) × (b ≡ true)
both a b = (and-eq-true_iff a b).0

-- induction on a list, from what holds of every end of its tail
pub by-ends {ℓ} : {A : Type 0} (P : List A → Type ℓ) → P [] → ((x : A) (xs : List A) → ((k : ℕ) → P (drop k xs)) → P (x ∷ xs)) → (xs : List A) → P xs
by-ends {A = A} P nil cons xs = go xs zero
  where
    go : (xs : List A) (k : ℕ) → P (drop k xs)
    go [] zero = nil
    go [] (suc k) = nil
    go (x ∷ xs) zero = cons x xs (go xs)
    go (x ∷ xs) (suc k) = go xs k

-- each of a list
abbrev pub All : {A : Type 0} → (A → Type 0) → List A → Type 0
All P [] = Unit {0}
All P (a ∷ l) = P a × All P l

pub add_swap : (i n : ℕ) → suc i + n ≡ i + suc n
add_swap i n = omega arith

-- what is made of two things where a test passes may be made of what they are by the same test
pub either : {A S L : Type 0} (next : S → L → A) (b : Bool) (old : A) (s s' : S) (l l' : L)
    → cond b (next s' l') old ≡ cond b (next (cond b s' s) (cond b l' l)) old
either next true old s s' l l' = refl
either next false old s s' l l' = refl
