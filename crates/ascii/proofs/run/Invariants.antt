-- What is passed, and the run behind it, is the run.
use lib.ListN.{length}
use Rattle.ascii.proofs.Leading.{Ran}
use Rattle.ascii.proofs.run.Given as goal

abbrev pub invariant-loop-block : goal.invariant-loop-block
invariant-loop-block l = Ran l.text l.rest

abbrev pub decreases-loop-block : goal.decreases-loop-block
decreases-loop-block l = length l.rest
