-- The form is that of the first run, and then that of the rest.
use mathlib.Core.Path.{sym}
use Prim.Native.Nat.{◌+◌}
use lib.ListN.{length}
use lib.Seq.{length-take-le}
use native.Mathlib.Omega.{arith}
use Rattle.terms.specs.Form.{converted}
use Rattle.terms.proofs.WalkBySegments.{part_is}
use Rattle.terms.proofs.WalkWrites.{Passed, left, back, Wrote, wrote-end, lent}
use Rattle.utf8.specs.Scalar.{utf8}
use Rattle.utf8_check.proofs.RunDivides.{Run}
use Rattle.utf8_check.proofs.StandingIsWhole.{run_at}
use Rattle.utf16.specs.Scalar.{utf16}
use Rattle.convert_from_utf8.proofs.RunsSpelled.{part_end, passed-rest, room-on, wrote_on, first-room, first-wrote}
use borrow.Author.Rules.{rules}
use Rattle.convert_from_utf8.proofs.write_units.Goals.{After-put-first, After-whole_run-run, After-write_on}
use Rattle.convert_from_utf8.proofs.write_units.Goals as goal

-- the first run
ran : (c : After-whole_run-run) → Run c.args.text.now c.whole_run-run.result
ran c = run_at c.args.text.now c.whole_run-run.result c.whole_run-run.ensures

pub slice_bounds-put-end : goal.slice_bounds-put-end
slice_bounds-put-end c =
    sym (length-take-le c.whole_run-run.result c.args.text.now (ran c).inside)

pub put-first-requires : goal.put-first-requires
put-first-requires c =
    let r = ran (goal.at.put-first-requires c).After-whole_run-run in
    first-room c.args.text.now c.whole_run-run.result r c.args.out.now c.requires

-- what is written behind it
next : (c : After-put-first) (ran : Run c.args.text.now c.whole_run-run.result)
    → let a = c.args in
    Wrote utf8 utf16 a.text.now a.out.now c.put-first.new.out c.whole_run-run.result c.put-first.result
next c ran =
    let d = c.put-first in
    first-wrote c.args.text.now c.whole_run-run.result ran c.args.out.now c.requires d.new.out d.result d.ensures

pub returns-then-run-text : goal.returns-then-run-text
returns-then-run-text c =
    let a = c.args in
    let r = ran (goal.at.returns-then-run-text c).After-whole_run-run in
    let w = next (goal.at.returns-then-run-text c).After-put-first r in
    let e = wrote-end utf8 utf16 a.text.now a.out.now _ _ _ w (omega (arith, c.if-run-text.true)) in
    record { count = e.0; output = e.1 }

pub slice_bounds-write_on-count : goal.slice_bounds-write_on-count
slice_bounds-write_on-count c = (ran (goal.at.slice_bounds-write_on-count c).After-whole_run-run).inside

pub slice_bounds-write_on-start : goal.slice_bounds-write_on-start
slice_bounds-write_on-start c = let i = (ran (goal.at.slice_bounds-write_on-start c).After-whole_run-run).inside in search rules

pub offset_bounds-out-first : goal.offset_bounds-out-first
offset_bounds-out-first c =
    let r = ran (goal.at.offset_bounds-out-first c).After-whole_run-run in
    let w = next (goal.at.offset_bounds-out-first c).After-put-first r in
    omega (arith, w.within, w.long, c.well_formed)

pub slice_bounds-write_on-count-2 : goal.slice_bounds-write_on-count-2
slice_bounds-write_on-count-2 c =
    let r = ran (goal.at.slice_bounds-write_on-count-2 c).After-whole_run-run in
    let w = next (goal.at.slice_bounds-write_on-count-2 c).After-put-first r in let i = w.within in let j = w.long in search rules

pub slice_bounds-write_on-start-2 : goal.slice_bounds-write_on-start-2
slice_bounds-write_on-start-2 c =
    let r = ran (goal.at.slice_bounds-write_on-start-2 c).After-whole_run-run in
    let w = next (goal.at.slice_bounds-write_on-start-2 c).After-put-first r in let i = w.within in let j = w.long in search rules

pub slice_bounds-write_on-end-2 : goal.slice_bounds-write_on-end-2
slice_bounds-write_on-end-2 c =
    let r = ran (goal.at.slice_bounds-write_on-end-2 c).After-whole_run-run in
    let w = next (goal.at.slice_bounds-write_on-end-2 c).After-put-first r in let i = w.within in let j = w.long in search rules

-- all that is left
passes : (c : After-whole_run-run)
    → let text = c.args.text.now in
    let rest = lent text c.whole_run-run.result in
    Passed (left utf8 utf16 text) (length text) c.whole_run-run.result (length rest) (converted utf8 utf16 rest)
passes c =
    let text = c.args.text.now in
    let run = c.whole_run-run.result in
    passed-rest text (lent text run) run (part_is text run) (ran c).inside

pub write_on-requires : goal.write_on-requires
write_on-requires c =
    let r = ran (goal.at.write_on-requires c).After-whole_run-run in
    let p = passes (goal.at.write_on-requires c).After-whole_run-run in
    let w = next (goal.at.write_on-requires c).After-put-first r in
    room-on c.args.text.now _ _ _ p c.args.out.now _ _ w c.requires

-- and what is written behind that
after : (c : After-write_on)
    → let text = c.args.text.now in
    let before = c.args.out.now in
    let run = c.whole_run-run.result in
    let rest = lent text run in
    let first = c.put-first in
    (passes : Passed (left utf8 utf16 text) (length text) run (length rest) (converted utf8 utf16 rest))
    (next : Wrote utf8 utf16 text before first.new.out run first.result)
    → Wrote utf8 utf16 text before (back first.new.out first.result c.write_on.new.out)
    (run + length rest) (first.result + c.write_on.result)
after c passes next =
    let d = c.write_on in
    wrote_on c.args.text.now _ _ _ passes c.args.out.now _ _ next c.requires d.new.out d.result d.ensures

pub overflow_add-result : goal.overflow_add-result
overflow_add-result c =
    let r = ran (goal.at.overflow_add-result c).After-whole_run-run in
    let p = passes (goal.at.overflow_add-result c).After-whole_run-run in
    let w = next (goal.at.overflow_add-result c).After-put-first r in
    omega (arith, (after (goal.at.overflow_add-result c).After-write_on p w).within, c.well_formed)

pub shape_of-out : goal.shape_of-out
shape_of-out c =
    let r = ran (goal.at.shape_of-out c).After-whole_run-run in
    let p = passes (goal.at.shape_of-out c).After-whole_run-run in
    let w = next (goal.at.shape_of-out c).After-put-first r in
    (after (goal.at.shape_of-out c).After-write_on p w).long

pub returns : goal.returns
returns c =
    let a = c.args in
    let text = a.text.now in
    let run = c.whole_run-run.result in
    let r = ran (goal.at.returns c).After-whole_run-run in
    let p = passes (goal.at.returns c).After-whole_run-run in
    let w = after (goal.at.returns c).After-write_on p (next (goal.at.returns c).After-put-first r) in
    let e = wrote-end utf8 utf16 text a.out.now _ _ _ w (part_end text (lent text run) run (part_is text run)) in
    record { count = e.0; output = e.1 }
