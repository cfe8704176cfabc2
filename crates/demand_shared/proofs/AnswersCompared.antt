-- Answers are compared by what they tell: two that tell the same are alike.
use mathlib.Core.Path.{◌≡◌, sym, ◌∙◌}
use Prim.Native.Nat.{ℕ}
use mathlib.Core.Bool.{Bool, true}
use mathlib.Core.List.{List}
use Rattle.demand_shared.specs.Equal.{equal}
use Rattle.demand_shared.proofs.EqualExactly.{equal-yes}

pub told-alike : {r : Bool} {k l m n : List ℕ} → r ≡ equal k m → k ≡ l → l ≡ n → m ≡ n → r ≡ true
told-alike {k = k} {m = m} e f g h = e ∙ equal-yes k m (f ∙ g ∙ sym h)
