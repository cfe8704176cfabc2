-- `pass` meets its contract: each block passes over places.
use Prim.Native.Nat.{◌-◌}
use Rattle.find.specs.Inside.Compared.{Passed}
use Rattle.find.proofs.ahead.Ahead.pass.Given as goal

abbrev pub invariant-loop-at : goal.invariant-loop-at
invariant-loop-at l = Passed l.entry l.needle l.place l.at

abbrev pub decreases-loop-at : goal.decreases-loop-at
decreases-loop-at l = l.end - l.at
