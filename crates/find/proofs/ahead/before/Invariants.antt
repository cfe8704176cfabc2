-- `before` meets its contract: at no place before the least the bytes are not apart.
use mathlib.Core.Path.{◌≡◌}
use Prim.Native.Nat.{ℕ, ◌<◌, ◌≤◌, ◌-◌}
use Rattle.find.specs.Inside.Compared.{at}
use Rattle.find.proofs.ahead.before.Given as goal

abbrev pub invariant-loop-k : goal.invariant-loop-k
invariant-loop-k l = (l.k ≤ l.size) × (l.least ≤ l.size) × ((j : ℕ) → j < l.k → at l.first j ≡ l.a → at l.second j ≡ l.b → l.least ≤ j)

abbrev pub decreases-loop-k : goal.decreases-loop-k
decreases-loop-k l = l.size - l.k
