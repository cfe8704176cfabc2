-- `walk_by` meets its contract: the stream behind the text is that behind the rest, from the place reached.
use Prim.Native.Nat.{◌-◌, ◌<◌}
use lib.ListN.{length}
use Rattle.index_build.specs.Inside.Steps.{Walked}
use Rattle.index_build.proofs.walk_by.Given as goal

abbrev pub invariant-loop-p : goal.invariant-loop-p
invariant-loop-p l = Walked l.text l.from l.initial.row l.row l.p l.at × (0 < l.wait)

abbrev pub decreases-loop-p : goal.decreases-loop-p
decreases-loop-p l = length l.text - l.at
