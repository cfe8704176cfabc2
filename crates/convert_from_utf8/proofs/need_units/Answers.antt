-- The need is that of the first run, and then that of the rest.
use mathlib.Core.Path.{sym}
use Prim.Native.Nat.{◌+◌}
use lib.ListN.{length}
use lib.Seq.{length-take-le}
use native.Mathlib.Omega.{arith}
use Rattle.terms.proofs.WalkBySegments.{part_is}
use Rattle.terms.proofs.WalkWrites.{Counted, counted-end, lent}
use Rattle.utf8.specs.Scalar.{utf8}
use Rattle.utf8_check.proofs.RunDivides.{Run}
use Rattle.utf8_check.proofs.StandingIsWhole.{run_at}
use Rattle.utf16.specs.Scalar.{utf16}
use Rattle.convert_from_utf8.proofs.RunsSpelled.{counted-few, run_undamaged, part_end, passed-rest, counted-on, first_counted}
use borrow.Author.Rules.{rules}
use Rattle.convert_from_utf8.proofs.need_units.Goals.{After-need-first, After-need_on, After-whole_run-run}
use Rattle.convert_from_utf8.proofs.need_units.Goals as goal

-- the first run
ran : (c : After-whole_run-run) → Run c.args.text.now c.whole_run-run.result
ran c = run_at c.args.text.now c.whole_run-run.result c.whole_run-run.ensures

pub slice_bounds-need-end : goal.slice_bounds-need-end
slice_bounds-need-end c =
    sym (length-take-le c.whole_run-run.result c.args.text.now (ran c).inside)

pub need-first-requires : goal.need-first-requires
need-first-requires c =
    run_undamaged c.args.text.now c.whole_run-run.result (ran c)

-- what is counted behind it
next : (c : After-need-first) (ran : Run c.args.text.now c.whole_run-run.result)
    → Counted utf8 utf16 c.args.text.now c.whole_run-run.result c.need-first.result
next c ran =
    first_counted c.args.text.now c.whole_run-run.result ran c.need-first.result c.need-first.ensures

pub returns-then-run-text : goal.returns-then-run-text
returns-then-run-text c =
    let r = ran (goal.at.returns-then-run-text c).After-whole_run-run in
    let n = next (goal.at.returns-then-run-text c).After-need-first r in
    counted-end utf8 utf16 c.args.text.now _ _ n (omega (arith, c.if-run-text.true))

pub slice_bounds-need_on-count : goal.slice_bounds-need_on-count
slice_bounds-need_on-count c = (ran (goal.at.slice_bounds-need_on-count c).After-whole_run-run).inside

pub slice_bounds-need_on-start : goal.slice_bounds-need_on-start
slice_bounds-need_on-start c = let i = (ran (goal.at.slice_bounds-need_on-start c).After-whole_run-run).inside in search rules

-- and behind all of the text
after : (c : After-need_on)
    → let text = c.args.text.now in
    let run = c.whole_run-run.result in
    let first = c.need-first.result in
    (ran : Run text run) (next : Counted utf8 utf16 text run first)
    → Counted utf8 utf16 text (run + length (lent text run)) (first + c.need_on.result)
after c ran next =
    let text = c.args.text.now in
    let run = c.whole_run-run.result in
    let p = passed-rest text (lent text run) run (part_is text run) ran.inside in
    counted-on text run _ _ p c.need-first.result c.need_on.result next c.need_on.ensures

pub overflow_add-result : goal.overflow_add-result
overflow_add-result c =
    let r = ran (goal.at.overflow_add-result c).After-whole_run-run in
    let n = next (goal.at.overflow_add-result c).After-need-first r in
    omega (arith, counted-few c.args.text.now _ _ (after c r n), c.well_formed)

pub returns : goal.returns
returns c =
    let text = c.args.text.now in
    let run = c.whole_run-run.result in
    let r = ran (goal.at.returns c).After-whole_run-run in
    let n = after (goal.at.returns c).After-need_on r (next (goal.at.returns c).After-need-first r) in
    counted-end utf8 utf16 text _ _ n (part_end text (lent text run) run (part_is text run))
