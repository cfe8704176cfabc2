-- The bytes passed stand at the start.
use Prim.Native.Nat.{◌-◌, ◌≤◌}
use Rattle.copy.proofs.Copied.{Copied}
use Rattle.copy.proofs.copy_block.Given as goal

abbrev pub invariant-loop-k : goal.invariant-loop-k
invariant-loop-k l = (l.k ≤ 16) × Copied l.text l.initial.out l.out l.k

abbrev pub decreases-loop-k : goal.decreases-loop-k
decreases-loop-k l = 16 - l.k
