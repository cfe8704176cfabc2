-- `follow` meets its contract, by the laws of its loop.
use Prim.Native.Nat.{◌-◌, suc}
use Rattle.utf8.proofs.LoopTells.{Followed}
use Rattle.utf8.proofs.classes.follow.Given as goal

abbrev pub invariant-loop-n : goal.invariant-loop-n
invariant-loop-n l = Followed l.classes l.text l.class l.more l.lead l.n

abbrev pub decreases-loop-n : goal.decreases-loop-n
decreases-loop-n l = suc l.more - l.n
