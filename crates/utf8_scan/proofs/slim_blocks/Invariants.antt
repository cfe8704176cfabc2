-- `slim_blocks` meets its contract: each block goes on where the text stood well so far.
use Prim.Native.Nat.{◌-◌, ◌≤◌}
use lib.ListN.{length}
use Rattle.utf8_scan.specs.Inside.Blocks.{Good}
use Rattle.utf8_scan.proofs.slim_blocks.Given as goal

abbrev pub invariant-loop-at : goal.invariant-loop-at
invariant-loop-at l = (3 ≤ l.at) × Good l.text l.at

abbrev pub decreases-loop-at : goal.decreases-loop-at
decreases-loop-at l = length l.text - l.at
