-- What is counted, and what the rest of the text takes, is the need.
use lib.ListN.{length}
use Rattle.utf8.proofs.ClassesRead.{table}
use Rattle.convert_from_utf8.proofs.RunsSpelled.{Counting}
use Rattle.convert_from_utf8.proofs.need_on.Given as goal

abbrev pub invariant-loop-p : goal.invariant-loop-p
invariant-loop-p l = Counting table l.text l.rest l.total

abbrev pub decreases-loop-p : goal.decreases-loop-p
decreases-loop-p l = length l.rest
