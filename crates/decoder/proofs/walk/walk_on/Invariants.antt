-- `walk::walk_on` meets its contract: so much has acted, and what is settled of the rest is still to act.
use mathlib.Core.Path.{◌≡◌}
use lib.ListN.{length}
use Rattle.decoder.specs.Inside.Acting.{work}
use Rattle.decoder.proofs.SettledWalk.{Walked}
use Rattle.decoder.proofs.walk.walk_on.Given as goal

abbrev pub invariant-loop-pace : goal.invariant-loop-pace
invariant-loop-pace l = (length l.out ≡ length l.initial.out)
    × (length l.list ≡ length l.initial.list)
    × Walked l.room l.text (work l.initial.repair l.initial.out l.initial.list) l.rest (work l.repair l.out l.list)

abbrev pub decreases-loop-pace : goal.decreases-loop-pace
decreases-loop-pace l = length l.rest
