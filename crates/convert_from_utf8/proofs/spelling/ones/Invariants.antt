-- Each byte below 0x80 is its own unit.
use Prim.Native.Nat.{◌-◌, ◌≤◌}
use Rattle.convert_from_utf8.proofs.StridesWalk.{Walked}
use Rattle.convert_from_utf8.proofs.spelling.ones.Given as goal

abbrev pub invariant-loop-at : goal.invariant-loop-at
invariant-loop-at l = Walked l.text l.initial.out l.out l.at l.at × (l.at ≤ l.stop)

abbrev pub decreases-loop-at : goal.decreases-loop-at
decreases-loop-at l = l.stop - l.at
