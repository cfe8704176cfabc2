-- `walk` meets its contract: at the place that the walk has come to, lookup still gives the same.
use Prim.Native.Nat.{◌-◌}
use lib.ListN.{length}
use Rattle.place.specs.Walk.{number, measure}
use Rattle.place_lookup.proofs.AnswersReached.{Seeks}
use Rattle.place_lookup.proofs.walk.Given as goal

abbrev pub invariant-loop-from : goal.invariant-loop-from
invariant-loop-from l = Seeks (measure l.to) (number l.to) l.from l.text l.at l.p

abbrev pub decreases-loop-from : goal.decreases-loop-from
decreases-loop-from l = length l.text - l.at
