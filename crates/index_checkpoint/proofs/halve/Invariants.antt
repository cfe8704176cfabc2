-- `halve` meets its contract: between low and high halving still chooses the same.
use mathlib.Core.Path.{◌≡◌}
use Prim.Native.Nat.{◌-◌, ◌≤◌}
use Rattle.theory.specs.Index.{halve}
use Rattle.index_checkpoint.specs.Checkpoints.{checkpoint}
use Rattle.index_checkpoint.specs.Choosing.{passes, halved}
use Rattle.index_checkpoint.proofs.halve.Given as goal

abbrev pub invariant-loop-high : goal.invariant-loop-high
invariant-loop-high l = (l.high ≤ l.n) × (l.low ≤ l.high) × (halved l.to l.row l.n ≡ halve (l.high - l.low) (λ k. passes l.to (checkpoint l.row k)) l.low l.high)

abbrev pub decreases-loop-high : goal.decreases-loop-high
decreases-loop-high l = l.high - l.low
