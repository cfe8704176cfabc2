-- `follow` meets its contract, by the laws of its loop.
use mathlib.Core.Path.{sym, ◌∙◌}
use native.Mathlib.Omega.{arith}
use Rattle.utf8.proofs.LoopTells.{follow-start, follow-whole, follow-ended, follow-stopped, follow-next}
use Rattle.utf8.proofs.classes.follow.Goals as goal

pub loop-n-init : goal.loop-n-init
loop-n-init c = follow-start _ _ _ _

pub returns-then-text-n : goal.returns-then-text-n
returns-then-text-n c = follow-ended _ _ _ _ _ _ c.loop-n.invariant (omega arith) (omega arith)

pub returns-then-not-goes_on : goal.returns-then-not-goes_on
returns-then-not-goes_on c =
    follow-stopped _ _ _ _ _ _ c.loop-n.invariant (omega arith) (omega arith) (rw c.class_in.ensures at (sym c.goes_on.ensures ∙ c.if-not-goes_on.true))

pub loop-n-preserved : goal.loop-n-preserved
loop-n-preserved c =
    follow-next _ _ _ _ _ _ c.loop-n.invariant (omega arith) (omega arith) (rw c.class_in.ensures at (sym c.goes_on.ensures ∙ c.if-not-goes_on.false))

pub returns : goal.returns
returns c = follow-whole _ _ _ _ _ _ c.loop-n.invariant (omega arith)
