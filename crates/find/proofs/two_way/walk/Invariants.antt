-- `walk` meets its contract: no place that it passes has a match.
use Prim.Native.Nat.{◌-◌}
use lib.ListN.{length}
use Rattle.find.specs.Inside.Compared.{Rare}
use Rattle.find.proofs.SearchWalks.{Walked}
use Rattle.find.proofs.two_way.walk.Given as goal

abbrev pub invariant-loop-place : goal.invariant-loop-place
invariant-loop-place l = Walked l.entry l.needle l.place l.seen × Rare l.needle l.ahead.first l.ahead.second

abbrev pub decreases-loop-place : goal.decreases-loop-place
decreases-loop-place l = length l.entry - l.place
