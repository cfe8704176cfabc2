-- The page has each code point passed; none are passed only where it lacks the first.
use Prim.Native.Nat.{◌-◌}
use lib.ListN.{length}
use Rattle.convert_from_utf8.specs.Inside.Held.{Reached}
use Rattle.convert_from_utf8.proofs.pages.Table.held_some.Given as goal

abbrev pub invariant-loop-passed : goal.invariant-loop-passed
invariant-loop-passed l = Reached l.self.numbers l.text l.passed

abbrev pub decreases-loop-passed : goal.decreases-loop-passed
decreases-loop-passed l = length l.text - l.passed
