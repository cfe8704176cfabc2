-- `reach` meets its contract: from the place that the walk has come to, the last place is still the same.
use Prim.Native.Nat.{◌-◌}
use lib.ListN.{length}
use Rattle.place.specs.Walk.{number, measure}
use Rattle.place_cut.proofs.LastPlaceKept.{Keeps}
use Rattle.place_cut.proofs.reach.Given as goal

abbrev pub invariant-loop-at : goal.invariant-loop-at
invariant-loop-at l = Keeps (measure l.most) (number l.most) l.from l.text l.at l.p

abbrev pub decreases-loop-at : goal.decreases-loop-at
decreases-loop-at l = length l.text - l.at
