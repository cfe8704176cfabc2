-- What is counted, and what the rest of the text takes, is the need.
use lib.ListN.{length}
use Rattle.utf8_repair.proofs.RestWalked.{Counts}
use Rattle.utf8_repair.proofs.need_on.Given as goal

abbrev pub invariant-loop-rest : goal.invariant-loop-rest
invariant-loop-rest l = Counts l.text l.rest l.total

abbrev pub decreases-loop-rest : goal.decreases-loop-rest
decreases-loop-rest l = length l.rest
