-- `ascii_blocks` meets its contract: each block reaches back to bytes below 0x80.
use Prim.Native.Nat.{◌-◌}
use lib.ListN.{length}
use Rattle.utf8_scan.specs.Inside.Blocks.{Ascii}
use Rattle.utf8_scan.proofs.ascii_blocks.Given as goal

abbrev pub invariant-loop-block : goal.invariant-loop-block
invariant-loop-block l = Ascii l.text l.at

abbrev pub decreases-loop-block : goal.decreases-loop-block
decreases-loop-block l = length l.text - l.at
