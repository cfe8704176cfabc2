-- `check` meets its contract: up to the place that the walk has come to there is no damage.
use Prim.Native.Nat.{◌-◌}
use lib.ListN.{length}
use Rattle.terms.proofs.WalkBySegments.{Clean}
use Rattle.code_points.specs.Points.{points}
use Rattle.code_points.proofs.check.Given as goal

abbrev pub invariant-loop-n : goal.invariant-loop-n
invariant-loop-n l = Clean points l.text l.at

abbrev pub decreases-loop-n : goal.decreases-loop-n
decreases-loop-n l = length l.text - l.at
