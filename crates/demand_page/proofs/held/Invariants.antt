-- Nothing is lacking up to the place that the walk has come to.
use Prim.Native.Nat.{◌-◌}
use lib.ListN.{length}
use Rattle.page.specs.Tables.{table_of}
use Rattle.demand_page.proofs.PlainWalk.{Passed}
use Rattle.demand_page.proofs.held.Given as goal

abbrev pub invariant-loop-p : goal.invariant-loop-p
invariant-loop-p l = Passed (table_of l.page) l.text l.at

abbrev pub decreases-loop-p : goal.decreases-loop-p
decreases-loop-p l = length l.text - l.at
