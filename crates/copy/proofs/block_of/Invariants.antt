-- The block is filled as far as the loop has come.
use Prim.Native.Nat.{◌-◌, ◌≤◌}
use Rattle.copy.proofs.Copied.{Copied}
use Rattle.copy.proofs.block_of.Given as goal

abbrev pub invariant-loop-k : goal.invariant-loop-k
invariant-loop-k l = (l.k ≤ 16) × Copied l.text l.initial.block l.block l.k

abbrev pub decreases-loop-k : goal.decreases-loop-k
decreases-loop-k l = 16 - l.k
