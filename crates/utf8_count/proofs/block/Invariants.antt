-- `block` meets its contract: the counts of the bytes passed.
use lib.ListN.{drop}
use Rattle.utf8_count.proofs.CountsByBlocks.{Counted}
use Rattle.utf8_count.proofs.block.Given as goal

abbrev pub invariant-loop-b : goal.invariant-loop-b
invariant-loop-b l = Counted l.text (drop l.b-index l.text) l.starts l.fours
