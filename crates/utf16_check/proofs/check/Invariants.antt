-- `check` meets its contract: up to the place that the walk has come to there is no damage.
use Prim.Native.Nat.{◌-◌}
use lib.ListN.{length}
use Rattle.terms.proofs.WalkBySegments.{Clean}
use Rattle.utf16.specs.Units.{units}
use Rattle.utf16_check.proofs.check.Given as goal

abbrev pub invariant-loop-block : goal.invariant-loop-block
invariant-loop-block l = Clean units l.text l.at

abbrev pub decreases-loop-block : goal.decreases-loop-block
decreases-loop-block l = length l.text - l.at
