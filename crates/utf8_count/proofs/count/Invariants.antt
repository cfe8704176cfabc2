-- `count` meets its contract: the sums of the blocks passed, and of the rest.
use lib.ListN.{length}
use Rattle.utf8_count.proofs.CountsByBlocks.{Counted}
use Rattle.utf8_count.proofs.count.Given as goal

abbrev pub invariant-loop-row : goal.invariant-loop-row
invariant-loop-row l = Counted l.text l.left l.sums.starts l.sums.fours

abbrev pub decreases-loop-row : goal.decreases-loop-row
decreases-loop-row l = length l.left
