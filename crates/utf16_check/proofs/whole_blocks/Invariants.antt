-- The units passed are whole segments.
use Rattle.std.proofs.Common.{◌-◌, length}
use Rattle.utf16_check.specs.Inside.Paired.{WholeTo}
use Rattle.utf16_check.proofs.whole_blocks.Given as goal

abbrev pub invariant-loop-units : goal.invariant-loop-units
invariant-loop-units l = WholeTo l.text l.at

abbrev pub decreases-loop-units : goal.decreases-loop-units
decreases-loop-units l = length l.text - l.at
