-- `wide_blocks` meets its contract: each block goes on where the text stood well so far.
use Prim.Native.Nat.{◌-◌, ◌≤◌}
use lib.ListN.{length}
use Rattle.utf8_scan.specs.Inside.Blocks.{Good}
use Rattle.utf8_scan.proofs.wide_blocks.Given as goal

abbrev pub invariant-loop-block : goal.invariant-loop-block
invariant-loop-block l = (3 ≤ l.at) × Good l.text l.at

abbrev pub decreases-loop-block : goal.decreases-loop-block
decreases-loop-block l = length l.text - l.at
