-- What is passed, and the run behind it, is the run.
use mathlib.Core.Path.{sym, ◌∙◌}
use borrow.Author.Tests.{leb-true, leb-false}
use native.Mathlib.Omega.{arith}
use Rattle.ascii.proofs.Leading.{ran-start, ran-next, ran-stopped, ran-end}
use Rattle.ascii.proofs.run.Goals.{in-Some+then-not-is_ascii, in_default}
use Rattle.ascii.proofs.run.Goals as goal

pub loop-block-init : goal.loop-block-init
loop-block-init c = ran-start c.args.text.now

pub loop-block-preserved : goal.loop-block-preserved
loop-block-preserved c =
    let e = c.in-Some.ensures.cases in
    rw e.1
    (ran-next c.args.text.now c.loop-block.rest.now c.loop-block.invariant (omega (arith, e.2))
    (rw e.0 at (leb-true 64 _ (sym c.is_ascii.ensures ∙ c.if-not-is_ascii.false))))

pub returns : goal.returns
returns c =
    elim c.match-split_first_chunk.branch [
      | in-Some+then-not-is_ascii w ↦
          ran-stopped c.args.text.now c.loop-block.rest.now c.loop-block.invariant
          (rw w.in-Some.ensures.cases.0 at (leb-false 64 _ (sym w.is_ascii.ensures ∙ w.if-not-is_ascii.true)))
      | in_default w ↦ ran-end c.args.text.now c.loop-block.rest.now c.loop-block.invariant w.in_default.ensures.cases
    ]
