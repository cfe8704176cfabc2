-- Each sequence of four bytes is a pair.
use Prim.Native.Nat.{◌-◌}
use lib.ListN.{length}
use Rattle.convert_from_utf8.proofs.StridesWalk.{Walked}
use Rattle.convert_from_utf8.proofs.spelling.fours.Given as goal

abbrev pub invariant-loop-at : goal.invariant-loop-at
invariant-loop-at l = Walked l.text l.initial.out l.out l.at l.put

abbrev pub decreases-loop-at : goal.decreases-loop-at
decreases-loop-at l = length l.text - l.at
