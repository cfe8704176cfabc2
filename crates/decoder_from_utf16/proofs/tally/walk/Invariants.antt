-- `tally::walk` meets its contract: up to the place that it has come to, all that is settled is tallied.
use mathlib.Core.Path.{◌≡◌}
use Prim.Native.Nat.{◌-◌}
use lib.ListN.{length}
use Rattle.utf16.proofs.RowsOfUnits.{units_division}
use Rattle.decoder_shared.proofs.TalliedWalk.{Walked}
use Rattle.decoder_shared.specs.Inside.Tallying.{log_of}
use Rattle.decoder_from_utf16.proofs.tally.walk.Given as goal

abbrev pub invariant-loop-n : goal.invariant-loop-n
invariant-loop-n l = (length l.list ≡ length l.initial.list) × Walked units_division l.room l.text (log_of l.initial.tally l.initial.list) l.at (log_of l.tally l.list)

abbrev pub decreases-loop-n : goal.decreases-loop-n
decreases-loop-n l = length l.text - l.at
