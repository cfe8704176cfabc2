-- The page has each code point up to the place that the walk has come to.
use Prim.Native.Nat.{◌-◌}
use lib.ListN.{length}
use Rattle.convert_from_utf8.specs.Inside.Held.{Reached}
use Rattle.convert_from_utf8.proofs.pages.Table.held.Given as goal

abbrev pub invariant-loop-at : goal.invariant-loop-at
invariant-loop-at l = Reached l.self.numbers l.text l.at

abbrev pub decreases-loop-at : goal.decreases-loop-at
decreases-loop-at l = length l.text - l.at
