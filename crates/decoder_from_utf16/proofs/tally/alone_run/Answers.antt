-- `tally::alone_run` meets its contract: so far all units stand alone.
use mathlib.Core.Path.{refl, sym, ◌∙◌}
use native.Mathlib.Omega.{arith}
use Rattle.decoder_from_utf16.proofs.TallyOfUnits.{alone_start, alone-next, alone-found}
use Rattle.decoder_from_utf16.proofs.tally.alone_run.Goals as goal

pub returns-then-not-due : goal.returns-then-not-due
returns-then-not-due c = (omega arith, refl)

pub loop-block-init : goal.loop-block-init
loop-block-init c = alone_start c.args.text.now

pub loop-block-preserved : goal.loop-block-preserved
loop-block-preserved c =
    let e = c.in-Some.ensures.cases in
    rw e.1
    (alone-next c.args.text.now c.loop-block.rest.now c.loop-block.invariant 32 (omega (arith, e.2))
    (rw e.0 at (sym c.are_alone.ensures ∙ c.if-not-are_alone.false)))

pub returns : goal.returns
returns c = alone-found c.args.text.now c.loop-block.rest.now c.loop-block.invariant
