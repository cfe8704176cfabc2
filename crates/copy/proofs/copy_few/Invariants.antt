-- The bytes passed stand at the start.
use Prim.Native.Nat.{◌-◌, ◌≤◌}
use Rattle.copy.proofs.Copied.{Copied}
use Rattle.copy.proofs.copy_few.Given as goal

abbrev pub invariant-loop-at : goal.invariant-loop-at
invariant-loop-at l = (l.at ≤ l.n) × Copied l.text l.initial.out l.out l.at

abbrev pub decreases-loop-at : goal.decreases-loop-at
decreases-loop-at l = l.n - l.at
