-- What is written, and what the rest of the text writes, is the form.
use mathlib.Core.Path.{sym, ap, ◌∙◌}
use Prim.Native.Nat.{◌+◌, ◌≤◌}
use lib.ListN.{length}
use lib.Seq.{length-take-le}
use native.Mathlib.Omega.{arith}
use Rattle.terms.specs.Told.{first_says}
use Rattle.terms.proofs.WalkWrites.{lent, back, Wrote, lent-less}
use Rattle.utf8.specs.Classes.{classes}
use Rattle.utf8.specs.Scalar.{utf8}
use Rattle.utf8.proofs.ClassesRead.{table, by-table}
use Rattle.convert_point.specs.Inside.Passes.{PassesTo}
use Rattle.utf8_check.proofs.RunsPassed.{run_paced}
use Rattle.utf8_repair.proofs.RestWalked.{Writing, writing_start, writing-end, writing-room, mended-wrote, writing-turn}
use borrow.Author.Rules.{rules}
use Rattle.utf8_repair.proofs.write_on.Goals.{After-copy_run, After-mend, After-paced_run-run}
use Rattle.utf8_repair.proofs.write_on.Goals as goal

pub loop-rest-init : goal.loop-rest-init
loop-rest-init c = let a = c.args in writing_start a.text.now a.out.now

pub slice_bounds-mend-count : goal.slice_bounds-mend-count
slice_bounds-mend-count c = let w = c.loop-rest.invariant.wrote in let i = w.within in let j = w.long in search rules

pub slice_bounds-mend-start : goal.slice_bounds-mend-start
slice_bounds-mend-start c = let w = c.loop-rest.invariant.wrote in let i = w.within in let j = w.long in search rules

pub mend-requires-clause-told : goal.mend-requires-clause-told
unfolding classes table
mend-requires-clause-told c =
    c.segment_by-seg.ensures ∙ ap (λ look. first_says look c.loop-rest.rest.now) by-table

pub mend-requires-clause-text_nonzero : goal.mend-requires-clause-text_nonzero
mend-requires-clause-text_nonzero c =
    (c.loop-rest-test.true, writing-room c.args.text.now c.args.out.now c.loop-rest.rest.now c.loop-rest.out c.loop-rest.done c.loop-rest.invariant c.requires)

-- what the segment took, and what it is in repaired form
passes : (c : After-mend)
    → PassesTo utf8 utf8 c.loop-rest.rest.now (lent c.loop-rest.out c.loop-rest.done) c.mend.new.out c.size-size.result c.mend.result
passes c = rw c.size-size.ensures c.mend.ensures

-- what is written behind the segment
mended : (c : After-mend)
    → let a = c.args in
    Wrote utf8 utf8 a.text.now a.out.now (back c.loop-rest.out c.loop-rest.done c.mend.new.out)
    (c.loop-rest.invariant.at + c.size-size.result) (c.loop-rest.done + c.mend.result)
mended c =
    mended-wrote c.args.text.now c.args.out.now c.loop-rest.rest.now c.loop-rest.out c.loop-rest.done c.loop-rest.invariant c.requires
    c.mend.new.out c.size-size.result c.mend.result (passes c)

pub overflow_add-to : goal.overflow_add-to
overflow_add-to c =
    let w = mended (goal.at.overflow_add-to c).After-mend in
    omega (arith, w.within, c.well_formed)

pub slice_bounds-behind-count : goal.slice_bounds-behind-count
slice_bounds-behind-count c = (passes (goal.at.slice_bounds-behind-count c).After-mend).passes.inside

pub slice_bounds-behind-start : goal.slice_bounds-behind-start
slice_bounds-behind-start c = let i = (passes (goal.at.slice_bounds-behind-start c).After-mend).passes.inside in search rules

-- the run ends within what is behind the segment
ends : (c : After-paced_run-run)
    → c.paced_run-run.result ≤ length (lent c.loop-rest.rest.now c.size-size.result)
ends c =
    (run_paced (lent c.loop-rest.rest.now c.size-size.result) c.loop-rest.pace c.paced_run-run.result c.paced_run-run.ensures).inside

pub slice_bounds-copy_run-end : goal.slice_bounds-copy_run-end
slice_bounds-copy_run-end c = sym (length-take-le _ _ (ends c))

pub slice_bounds-copy_run-count : goal.slice_bounds-copy_run-count
slice_bounds-copy_run-count c =
    let w = mended (goal.at.slice_bounds-copy_run-count c).After-mend in let i = w.within in let j = w.long in search rules

pub slice_bounds-copy_run-start : goal.slice_bounds-copy_run-start
slice_bounds-copy_run-start c =
    let w = mended (goal.at.slice_bounds-copy_run-start c).After-mend in let i = w.within in let j = w.long in search rules

pub slice_bounds-copy_run-end-in-loop-rest : goal.slice_bounds-copy_run-end-in-loop-rest
slice_bounds-copy_run-end-in-loop-rest c =
    let w = mended (goal.at.slice_bounds-copy_run-end-in-loop-rest c).After-mend in let i = w.within in let j = w.long in search rules

-- and behind the run
turn : (c : After-copy_run)
    → PassesTo utf8 utf8 c.loop-rest.rest.now (lent c.loop-rest.out c.loop-rest.done) c.mend.new.out c.size-size.result c.mend.result
    → let a = c.args in
    Writing a.text.now a.out.now (lent (lent c.loop-rest.rest.now c.size-size.result) c.paced_run-run.result)
    (back (back c.loop-rest.out c.loop-rest.done c.mend.new.out) (c.loop-rest.done + c.mend.result) c.copy_run.new.out)
    (c.loop-rest.done + c.mend.result + c.paced_run-run.result)
turn c passes =
    writing-turn c.args.text.now c.args.out.now c.loop-rest.rest.now c.loop-rest.out c.loop-rest.done c.loop-rest.invariant c.requires
    c.mend.new.out c.size-size.result c.mend.result passes c.loop-rest.pace c.paced_run-run.result c.paced_run-run.ensures
    c.copy_run.new.out c.copy_run.ensures

pub overflow_add-done : goal.overflow_add-done
overflow_add-done c =
    let w = (turn (goal.at.overflow_add-done c).After-copy_run (passes (goal.at.overflow_add-done c).After-mend)).wrote in
    omega (arith, w.within, c.well_formed)

pub slice_bounds-rest-count : goal.slice_bounds-rest-count
slice_bounds-rest-count c = ends (goal.at.slice_bounds-rest-count c).After-paced_run-run

pub slice_bounds-rest-start : goal.slice_bounds-rest-start
slice_bounds-rest-start c = let i = ends (goal.at.slice_bounds-rest-start c).After-paced_run-run in search rules

pub slice_bounds-rest-end : goal.slice_bounds-rest-end
slice_bounds-rest-end c = let i = ends (goal.at.slice_bounds-rest-end c).After-paced_run-run in search rules

pub loop-rest-smaller : goal.loop-rest-smaller
loop-rest-smaller c =
    let p = (passes (goal.at.loop-rest-smaller c).After-mend).passes in
    lent-less c.loop-rest.rest.now c.size-size.result c.paced_run-run.result p.inside p.some

pub loop-rest-preserved : goal.loop-rest-preserved
loop-rest-preserved c =
    turn (goal.at.loop-rest-preserved c).After-copy_run (passes (goal.at.loop-rest-preserved c).After-mend)

pub shape_of-out : goal.shape_of-out
shape_of-out c = c.loop-rest.invariant.wrote.long

pub returns : goal.returns
returns c =
    let a = c.args in
    writing-end a.text.now a.out.now c.loop-rest.rest.now c.loop-rest.out c.loop-rest.done c.loop-rest.invariant c.loop-rest-test.false
