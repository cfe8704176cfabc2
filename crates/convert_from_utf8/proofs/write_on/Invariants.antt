-- What is written, and what the rest of the text writes, is the form.
use lib.ListN.{length}
use Rattle.utf8.proofs.ClassesRead.{table}
use Rattle.convert_from_utf8.proofs.RunsSpelled.{Writing}
use Rattle.convert_from_utf8.proofs.write_on.Given as goal

abbrev pub invariant-loop-p : goal.invariant-loop-p
invariant-loop-p l = Writing table l.text l.initial.out l.out l.rest l.done

abbrev pub decreases-loop-p : goal.decreases-loop-p
decreases-loop-p l = length l.rest
