-- `greatest` meets its contract: each step of the walk keeps what it knows.
use Prim.Native.Nat.{◌+◌, ◌-◌}
use lib.ListN.{length}
use Rattle.find.specs.Inside.Compared.{at}
use Rattle.find.specs.Inside.Cuts.{ranked}
use Rattle.find.proofs.GreatestGrows.{Grown}
use Rattle.find.proofs.critical.greatest.Given as goal

abbrev pub invariant-loop-j : goal.invariant-loop-j
invariant-loop-j l = Grown (ranked l.turned (at l.needle)) (length l.needle) l.s l.j l.k l.p

abbrev pub decreases-loop-j : goal.decreases-loop-j
decreases-loop-j l = length l.needle + length l.needle - (l.s + (l.j + l.k))
