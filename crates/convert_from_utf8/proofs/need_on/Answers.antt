-- What is counted, and what the rest of the text takes, is the need.
use Prim.Native.Nat.{◌+◌, ◌≤◌}
use mathlib.Core.Path.{refl, sym, ◌∙◌}
use lib.ListN.{length}
use lib.Seq.{length-take-le}
use native.Mathlib.Omega.{arith}
use Rattle.terms.proofs.WalkWrites.{Met, Counted, counted_start, counted_next, counted-end, lent, lent-long, lent-there}
use Rattle.utf8.specs.Scalar.{utf8, utf8_by}
use Rattle.utf8.specs.Classes.{classes}
use Rattle.utf8.proofs.ClassesRead.{table, by-table}
use Rattle.utf8_check.proofs.RunDivides.{Run}
use Rattle.utf8_check.proofs.RunsPassed.{run_paced}
use Rattle.utf16.specs.Scalar.{utf16}
use Rattle.convert_from_utf8.proofs.RunsSpelled.{none-left, counted-few, run_undamaged, part-long, part_end, met-there, passed-there, counted-on}
use borrow.Author.Rules.{rules}
use Rattle.convert_from_utf8.proofs.need_on.Goals.{After-need-total, After-paced_run-run, After-places-total, In-Some}
use Rattle.convert_from_utf8.proofs.need_on.Goals as goal

pub loop-p-init : goal.loop-p-init
unfolding classes table
loop-p-init c =
    let text = c.args.text.now in
    record { reads = by-table; at = 0; rest-is = refl; counted = counted_start utf8 utf16 text }

-- the code point that was read
here : (c : In-Some)
    → Met utf8 c.args.text.now c.loop-p.invariant.at c.in-Some.p.size c.in-Some.p.number
unfolding classes table
here c =
    let v = c.loop-p.invariant in
    met-there c.args.text.now c.loop-p.rest.now v.at v.rest-is _ v.reads c.in-Some.p (sym c.in-Some.is ∙ c.point_by.ensures)

-- what is counted behind it
next : (c : After-places-total)
    (here : Met utf8 c.args.text.now c.loop-p.invariant.at c.in-Some.p.size c.in-Some.p.number)
    → Counted utf8 utf16 c.args.text.now (c.loop-p.invariant.at + c.in-Some.p.size) (c.loop-p.total + c.places-total.result)
next c here =
    rw c.places-total.ensures
    (counted_next utf8 utf16 c.args.text.now c.loop-p.invariant.at c.loop-p.total _ _ c.loop-p.invariant.counted here)

pub overflow_add-total : goal.overflow_add-total
overflow_add-total c =
    let h = here (goal.at.overflow_add-total c).In-Some in
    omega (arith, counted-few c.args.text.now _ _ (next c h), c.well_formed)

-- the code point ends within the rest
ends : (c : In-Some) → c.in-Some.p.size ≤ length c.loop-p.rest.now
ends c =
    let m = here c in
    omega (arith, part-long c.args.text.now c.loop-p.rest.now c.loop-p.invariant.at c.loop-p.invariant.rest-is, m.inside)

pub slice_bounds-behind-count : goal.slice_bounds-behind-count
slice_bounds-behind-count c = ends (goal.at.slice_bounds-behind-count c).In-Some

pub slice_bounds-behind-start : goal.slice_bounds-behind-start
slice_bounds-behind-start c = let e = ends (goal.at.slice_bounds-behind-start c).In-Some in search rules

pub slice_bounds-behind-end : goal.slice_bounds-behind-end
slice_bounds-behind-end c = let e = ends (goal.at.slice_bounds-behind-end c).In-Some in search rules

-- the run behind it
ran : (c : After-paced_run-run)
    → Run (lent c.loop-p.rest.now c.in-Some.p.size) c.paced_run-run.result
ran c =
    run_paced (lent c.loop-p.rest.now c.in-Some.p.size) c.loop-p.pace c.paced_run-run.result c.paced_run-run.ensures

pub slice_bounds-need-end : goal.slice_bounds-need-end
slice_bounds-need-end c =
    sym (length-take-le c.paced_run-run.result (lent c.loop-p.rest.now c.in-Some.p.size) (ran c).inside)

pub need-total-requires : goal.need-total-requires
need-total-requires c =
    run_undamaged (lent c.loop-p.rest.now c.in-Some.p.size) c.paced_run-run.result (ran c)

-- and what is counted behind that
after : (c : After-need-total)
    → let text = c.args.text.now in
    let size = c.in-Some.p.size in
    let run = c.paced_run-run.result in
    let at = c.loop-p.invariant.at + size in
    let total = c.loop-p.total + c.places-total.result in
    (here : Met utf8 text c.loop-p.invariant.at size c.in-Some.p.number)
    (ran : Run (lent c.loop-p.rest.now size) run)
    (next : Counted utf8 utf16 text at total)
    → Counted utf8 utf16 text (at + run) (total + c.need-total.result)
after c here ran next =
    let text = c.args.text.now in
    let rest = c.loop-p.rest.now in
    let size = c.in-Some.p.size in
    let run = c.paced_run-run.result in
    let v = c.loop-p.invariant in
    let b = passed-there text (lent rest size) (v.at + size) (lent-there text rest v.at v.rest-is size) here.inside run ran in
    counted-on text (v.at + size) run _ b (c.loop-p.total + c.places-total.result) c.need-total.result next c.need-total.ensures

pub overflow_add-total-in-Some : goal.overflow_add-total-in-Some
overflow_add-total-in-Some c =
    let h = here (goal.at.overflow_add-total-in-Some c).In-Some in
    let r = ran (goal.at.overflow_add-total-in-Some c).After-paced_run-run in
    let n = next (goal.at.overflow_add-total-in-Some c).After-places-total h in
    omega (arith, counted-few c.args.text.now _ _ (after c h r n), c.well_formed)

pub slice_bounds-rest-count : goal.slice_bounds-rest-count
slice_bounds-rest-count c = (ran (goal.at.slice_bounds-rest-count c).After-paced_run-run).inside

pub slice_bounds-rest-start : goal.slice_bounds-rest-start
slice_bounds-rest-start c = let e = (ran (goal.at.slice_bounds-rest-start c).After-paced_run-run).inside in search rules

pub slice_bounds-rest-end : goal.slice_bounds-rest-end
slice_bounds-rest-end c = let e = (ran (goal.at.slice_bounds-rest-end c).After-paced_run-run).inside in search rules

pub loop-p-smaller : goal.loop-p-smaller
loop-p-smaller c =
    let rest = c.loop-p.rest.now in
    let size = c.in-Some.p.size in
    let h = here (goal.at.loop-p-smaller c).In-Some in
    let e = ends (goal.at.loop-p-smaller c).In-Some in
    omega (arith, h.some, e, lent-long rest size, lent-long (lent rest size) c.paced_run-run.result)

pub loop-p-preserved : goal.loop-p-preserved
loop-p-preserved c =
    let v = c.loop-p.invariant in
    let text = c.args.text.now in
    let rest = c.loop-p.rest.now in
    let size = c.in-Some.p.size in
    let behind = lent-there text rest v.at v.rest-is size in
    let h = here (goal.at.loop-p-preserved c).In-Some in
    let r = ran (goal.at.loop-p-preserved c).After-paced_run-run in
    let n = next (goal.at.loop-p-preserved c).After-places-total h in
    record {
      reads = v.reads;
      at = v.at + size + c.paced_run-run.result;
      rest-is = lent-there text (lent rest size) (v.at + size) behind c.paced_run-run.result;
      counted = after (goal.at.loop-p-preserved c).After-need-total h r n;
    }

pub returns : goal.returns
unfolding classes table
returns c =
    let v = c.loop-p.invariant in
    let text = c.args.text.now in
    let rest = c.loop-p.rest.now in
    counted-end utf8 utf16 text v.at c.loop-p.total v.counted
    (omega (arith, part_end text rest v.at v.rest-is, none-left (utf8_by table) rest (sym c.in_default.is ∙ c.point_by.ensures)))
