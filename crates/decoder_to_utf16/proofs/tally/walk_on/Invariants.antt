-- `tally::walk_on` meets its contract: so much is tallied, and what is settled of the rest is still to be.
use mathlib.Core.Path.{◌≡◌}
use lib.ListN.{length}
use Rattle.decoder_shared.specs.Inside.Tallying.{log_of}
use Rattle.decoder_to_utf16.proofs.TallyOfBytes.{Left}
use Rattle.decoder_to_utf16.proofs.tally.walk_on.Given as goal

abbrev pub invariant-loop-pace : goal.invariant-loop-pace
invariant-loop-pace l = (length l.list ≡ length l.initial.list) × Left l.room l.text (log_of l.initial.tally l.initial.list) l.rest (log_of l.tally l.list)

abbrev pub decreases-loop-pace : goal.decreases-loop-pace
decreases-loop-pace l = length l.rest
