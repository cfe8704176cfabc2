-- The numbers that are said of an answer, and 0 in the places behind them.
use mathlib.Core.Path.{◌≡◌, refl, ap}
use Prim.Native.Nat.{ℕ, ◌≤◌}
use mathlib.Core.List.{List, [], ◌∷◌, ◌++◌}
use lib.ListN.{length, take, drop, replicate}
use native.Mathlib.Omega.{arith}
use Rattle.bridge_numbers.specs.Telling.{places, said_of}
use Rattle.bridge_numbers.specs.declared.telling.Said.{Said}

-- numbers that are said, and 0 in the places behind them
zeros-behind : (numbers : List ℕ) → length numbers ≤ places
    → numbers ++ drop (length numbers) (replicate places 0) ≡ take places (numbers ++ replicate places 0)
zeros-behind [] h = refl
zeros-behind (a ∷ []) h = refl
zeros-behind (a ∷ b ∷ []) h = refl
zeros-behind (a ∷ b ∷ d ∷ []) h = refl
zeros-behind (a ∷ b ∷ d ∷ e ∷ []) h = refl
zeros-behind (a ∷ b ∷ d ∷ e ∷ f ∷ []) h = refl
zeros-behind (a ∷ b ∷ d ∷ e ∷ f ∷ g ∷ more) h = absurd (omega arith)

pub said-whole : (numbers all : List ℕ) (n : ℕ) → length numbers ≡ n → n ≤ places → all ≡ numbers
    → ◌≡◌ {A = Said} (record { numbers = all ++ drop n (replicate places 0); count = n }) (said_of numbers)
said-whole numbers all n e h same =
    rw (← e, same) (ap (λ (l : List ℕ). record { numbers = l; count = length numbers }) (zeros-behind numbers (omega arith)))
