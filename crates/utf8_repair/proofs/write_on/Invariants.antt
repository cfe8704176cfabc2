-- What is written, and what the rest of the text writes, is the form.
use lib.ListN.{length}
use Rattle.utf8_repair.proofs.RestWalked.{Writing}
use Rattle.utf8_repair.proofs.write_on.Given as goal

abbrev pub invariant-loop-rest : goal.invariant-loop-rest
invariant-loop-rest l = Writing l.text l.initial.out l.rest l.out l.done

abbrev pub decreases-loop-rest : goal.decreases-loop-rest
decreases-loop-rest l = length l.rest
