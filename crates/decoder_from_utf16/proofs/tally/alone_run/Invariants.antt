-- `tally::alone_run` meets its contract: so far all units stand alone.
use lib.ListN.{length}
use Rattle.decoder_from_utf16.proofs.TallyOfUnits.{Alone}
use Rattle.decoder_from_utf16.proofs.tally.alone_run.Given as goal

abbrev pub invariant-loop-block : goal.invariant-loop-block
invariant-loop-block l = Alone l.text l.rest

abbrev pub decreases-loop-block : goal.decreases-loop-block
decreases-loop-block l = length l.rest
