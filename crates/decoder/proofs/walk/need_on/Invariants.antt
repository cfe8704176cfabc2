-- `walk::need_on` meets its contract: so much is counted, and the rest adds what is left.
use lib.ListN.{length}
use Rattle.decoder.proofs.SettledWalk.{Counted}
use Rattle.decoder.proofs.walk.need_on.Given as goal

abbrev pub invariant-loop-rest : goal.invariant-loop-rest
invariant-loop-rest l = Counted l.text l.rest l.n

abbrev pub decreases-loop-rest : goal.decreases-loop-rest
decreases-loop-rest l = length l.rest
