-- What is written, and what the rest of the text writes, is the form.
use mathlib.Core.Path.{refl, sym, ◌∙◌}
use Prim.Native.Nat.{◌+◌, ◌≤◌}
use lib.ListN.{length, take}
use lib.Seq.{length-take-le}
use native.Mathlib.Omega.{arith}
use Rattle.terms.proofs.WalkWrites.{Met, Passed, left, back, Wrote, wrote-start, wrote-end, lent, lent-long, lent-there}
use Rattle.utf8.specs.Classes.{classes}
use Rattle.utf8.specs.Scalar.{utf8, utf8_by}
use Rattle.utf8.proofs.ClassesRead.{table, by-table}
use Rattle.utf8_check.proofs.RunDivides.{Run}
use Rattle.utf8_check.proofs.RunsPassed.{run_paced}
use Rattle.utf16.specs.Scalar.{utf16}
use Rattle.convert_point.proofs.PointWritten.{wrote-put}
use Rattle.convert_from_utf8.specs.Inside.Spell.{spelled}
use Rattle.convert_from_utf8.proofs.RunsSpelled.{none-left, part-long, part_end, met-there, passed-spelled, room-on, wrote_on}
use borrow.Author.Rules.{rules}
use Rattle.convert_from_utf8.proofs.write_on.Goals.{After-paced_run-run, In-Some, After-put_units-done, After-spell_run-done}
use Rattle.convert_from_utf8.proofs.write_on.Goals as goal

pub loop-p-init : goal.loop-p-init
unfolding classes table
loop-p-init c =
    let a = c.args in
    record { reads = by-table; at = 0; rest-is = refl; wrote = wrote-start utf8 utf16 a.text.now a.out.now }

-- the code point that was read
here : (c : In-Some)
    → Met utf8 c.args.text.now c.loop-p.invariant.at c.in-Some.p.size c.in-Some.p.number
unfolding classes table
here c =
    let v = c.loop-p.invariant in
    met-there c.args.text.now c.loop-p.rest.now v.at v.rest-is _ v.reads c.in-Some.p (sym c.in-Some.is ∙ c.point_by.ensures)

-- it ends within the rest
ends : (c : In-Some) → c.in-Some.p.size ≤ length c.loop-p.rest.now
ends c =
    omega (arith, part-long c.args.text.now c.loop-p.rest.now c.loop-p.invariant.at c.loop-p.invariant.rest-is, (here c).inside)

pub offset_bounds-out-done : goal.offset_bounds-out-done
offset_bounds-out-done c = let w = c.loop-p.invariant.wrote in omega (arith, w.within, w.long, c.well_formed)

pub slice_bounds-put_units-count : goal.slice_bounds-put_units-count
slice_bounds-put_units-count c = let w = c.loop-p.invariant.wrote in let i = w.within in let j = w.long in search rules

pub slice_bounds-put_units-start : goal.slice_bounds-put_units-start
slice_bounds-put_units-start c = let w = c.loop-p.invariant.wrote in let i = w.within in let j = w.long in search rules

pub slice_bounds-put_units-end : goal.slice_bounds-put_units-end
slice_bounds-put_units-end c = let w = c.loop-p.invariant.wrote in let i = w.within in let j = w.long in search rules

-- what is written behind it
next : (c : After-put_units-done)
    (here : Met utf8 c.args.text.now c.loop-p.invariant.at c.in-Some.p.size c.in-Some.p.number)
    → let a = c.args in
    Wrote utf8 utf16 a.text.now a.out.now (back c.loop-p.out c.loop-p.done c.put_units-done.new.out)
    (c.loop-p.invariant.at + c.in-Some.p.size) (c.loop-p.done + c.put_units-done.result)
next c here =
    let v = c.loop-p.invariant in
    let d = c.put_units-done in
    wrote-put utf8 utf16 c.args.text.now c.args.out.now c.loop-p.out v.at c.loop-p.done v.wrote c.requires _ _ here
    d.new.out d.result d.ensures

pub overflow_add-done : goal.overflow_add-done
overflow_add-done c =
    let h = here (goal.at.overflow_add-done c).In-Some in
    omega (arith, (next (goal.at.overflow_add-done c).After-put_units-done h).within, c.well_formed)

pub slice_bounds-behind-count : goal.slice_bounds-behind-count
slice_bounds-behind-count c = ends (goal.at.slice_bounds-behind-count c).In-Some

pub slice_bounds-behind-start : goal.slice_bounds-behind-start
slice_bounds-behind-start c = let e = ends (goal.at.slice_bounds-behind-start c).In-Some in search rules

pub slice_bounds-behind-end : goal.slice_bounds-behind-end
slice_bounds-behind-end c = let e = ends (goal.at.slice_bounds-behind-end c).In-Some in search rules

-- the run behind it
ran : (c : After-paced_run-run)
    → Run (lent c.loop-p.rest.now c.in-Some.p.size) c.paced_run-run.result
ran c =
    run_paced (lent c.loop-p.rest.now c.in-Some.p.size) c.loop-p.pace c.paced_run-run.result c.paced_run-run.ensures

pub slice_bounds-spell_run-end : goal.slice_bounds-spell_run-end
slice_bounds-spell_run-end c =
    sym (length-take-le c.paced_run-run.result (lent c.loop-p.rest.now c.in-Some.p.size) (ran c).inside)

pub offset_bounds-out-done-in-Some : goal.offset_bounds-out-done-in-Some
offset_bounds-out-done-in-Some c =
    let h = here (goal.at.offset_bounds-out-done-in-Some c).In-Some in
    let w = next (goal.at.offset_bounds-out-done-in-Some c).After-put_units-done h in
    omega (arith, w.within, w.long, c.well_formed)

pub slice_bounds-spell_run-count : goal.slice_bounds-spell_run-count
slice_bounds-spell_run-count c =
    let h = here (goal.at.slice_bounds-spell_run-count c).In-Some in
    let w = next (goal.at.slice_bounds-spell_run-count c).After-put_units-done h in let i = w.within in let j = w.long in search rules

pub slice_bounds-spell_run-start : goal.slice_bounds-spell_run-start
slice_bounds-spell_run-start c =
    let h = here (goal.at.slice_bounds-spell_run-start c).In-Some in
    let w = next (goal.at.slice_bounds-spell_run-start c).After-put_units-done h in let i = w.within in let j = w.long in search rules

pub slice_bounds-spell_run-end-in-Some : goal.slice_bounds-spell_run-end-in-Some
slice_bounds-spell_run-end-in-Some c =
    let h = here (goal.at.slice_bounds-spell_run-end-in-Some c).In-Some in
    let w = next (goal.at.slice_bounds-spell_run-end-in-Some c).After-put_units-done h in
    let i = w.within in let j = w.long in search rules

passes : (c : After-paced_run-run)
    (here : Met utf8 c.args.text.now c.loop-p.invariant.at c.in-Some.p.size c.in-Some.p.number)
    → let text = c.args.text.now in
    let size = c.in-Some.p.size in
    let run = c.paced_run-run.result in
    Passed (left utf8 utf16 text) (length text) (c.loop-p.invariant.at + size) run (spelled (take run (lent c.loop-p.rest.now size)))
passes c here =
    let v = c.loop-p.invariant in
    let text = c.args.text.now in
    let rest = c.loop-p.rest.now in
    let size = c.in-Some.p.size in
    let behind = lent-there text rest v.at v.rest-is size in
    passed-spelled text (lent rest size) (v.at + size) behind here.inside c.paced_run-run.result (ran c)

pub spell_run-done-requires : goal.spell_run-done-requires
spell_run-done-requires c =
    let h = here (goal.at.spell_run-done-requires c).In-Some in
    let p = passes (goal.at.spell_run-done-requires c).After-paced_run-run h in
    let w = next (goal.at.spell_run-done-requires c).After-put_units-done h in
    room-on c.args.text.now _ _ _ p c.args.out.now _ _ w c.requires

-- and what is written behind that
after : (c : After-spell_run-done)
    → let text = c.args.text.now in
    let before = c.args.out.now in
    let size = c.in-Some.p.size in
    let at = c.loop-p.invariant.at + size in
    let run = c.paced_run-run.result in
    let out = back c.loop-p.out c.loop-p.done c.put_units-done.new.out in
    let done = c.loop-p.done + c.put_units-done.result in
    (passes : Passed (left utf8 utf16 text) (length text) at run (spelled (take run (lent c.loop-p.rest.now size))))
    (next : Wrote utf8 utf16 text before out at done)
    → Wrote utf8 utf16 text before (back out done c.spell_run-done.new.out) (at + run) (done + c.spell_run-done.result)
after c passes next =
    let d = c.spell_run-done in
    wrote_on c.args.text.now _ _ _ passes c.args.out.now _ _ next c.requires d.new.out d.result d.ensures

pub overflow_add-done-in-Some : goal.overflow_add-done-in-Some
overflow_add-done-in-Some c =
    let h = here (goal.at.overflow_add-done-in-Some c).In-Some in
    let p = passes (goal.at.overflow_add-done-in-Some c).After-paced_run-run h in
    let w = next (goal.at.overflow_add-done-in-Some c).After-put_units-done h in
    omega (arith, (after (goal.at.overflow_add-done-in-Some c).After-spell_run-done p w).within, c.well_formed)

pub slice_bounds-rest-count : goal.slice_bounds-rest-count
slice_bounds-rest-count c = (ran (goal.at.slice_bounds-rest-count c).After-paced_run-run).inside

pub slice_bounds-rest-start : goal.slice_bounds-rest-start
slice_bounds-rest-start c = let e = (ran (goal.at.slice_bounds-rest-start c).After-paced_run-run).inside in search rules

pub slice_bounds-rest-end : goal.slice_bounds-rest-end
slice_bounds-rest-end c = let e = (ran (goal.at.slice_bounds-rest-end c).After-paced_run-run).inside in search rules

pub loop-p-smaller : goal.loop-p-smaller
loop-p-smaller c =
    let rest = c.loop-p.rest.now in
    let size = c.in-Some.p.size in
    let h = here (goal.at.loop-p-smaller c).In-Some in
    let e = ends (goal.at.loop-p-smaller c).In-Some in
    omega (arith, h.some, e, lent-long rest size, lent-long (lent rest size) c.paced_run-run.result)

pub loop-p-preserved : goal.loop-p-preserved
loop-p-preserved c =
    let v = c.loop-p.invariant in
    let text = c.args.text.now in
    let rest = c.loop-p.rest.now in
    let size = c.in-Some.p.size in
    let behind = lent-there text rest v.at v.rest-is size in
    let h = here (goal.at.loop-p-preserved c).In-Some in
    let p = passes (goal.at.loop-p-preserved c).After-paced_run-run h in
    let w = next (goal.at.loop-p-preserved c).After-put_units-done h in
    record {
      reads = v.reads;
      at = v.at + size + c.paced_run-run.result;
      rest-is = lent-there text (lent rest size) (v.at + size) behind c.paced_run-run.result;
      wrote = after (goal.at.loop-p-preserved c).After-spell_run-done p w;
    }

pub shape_of-out : goal.shape_of-out
shape_of-out c = c.loop-p.invariant.wrote.long

pub returns : goal.returns
unfolding classes table
returns c =
    let v = c.loop-p.invariant in
    let a = c.args in
    let text = a.text.now in
    let rest = c.loop-p.rest.now in
    let e = wrote-end utf8 utf16 text a.out.now c.loop-p.out v.at c.loop-p.done v.wrote
    (omega (arith, part_end text rest v.at v.rest-is, none-left (utf8_by table) rest (sym c.in_default.is ∙ c.point_by.ensures))) in
    record { count = e.0; output = e.1 }
