-- What is counted, and what the rest of the text takes, is the need.
use mathlib.Core.Path.{◌≡◌, ap, ◌∙◌}
use Prim.Native.Nat.{◌+◌, ◌≤◌}
use lib.ListN.{length}
use native.Mathlib.Omega.{arith}
use Rattle.terms.specs.Told.{told_first, first_says}
use Rattle.terms.proofs.WalkWrites.{lent, lent-less}
use Rattle.utf8.specs.Bytes.{bytes}
use Rattle.utf8.specs.Classes.{classes}
use Rattle.utf8.proofs.ClassesRead.{table, by-table}
use Rattle.convert_point.specs.declared.Target.TheVariants.{Bytes}
use Rattle.convert_point.proofs.Enough.{text_few}
use Rattle.utf8_check.proofs.RunsPassed.{run_paced}
use Rattle.utf8_repair.proofs.RestWalked.{Counts, counts_start, counts-few, counts_end, size-some, size-inside, counts-turn}
use borrow.Author.Rules.{rules}
use Rattle.utf8_repair.proofs.need_on.Goals.{After-paced_run-run, After-places, After-segment_by-seg, After-size-size}
use Rattle.utf8_repair.proofs.need_on.Goals as goal

pub loop-rest-init : goal.loop-rest-init
loop-rest-init c = counts_start c.args.text.now

-- what was told of the rest
told : (c : After-segment_by-seg) → told_first c.segment_by-seg.result ≡ first_says bytes c.loop-rest.rest.now
unfolding classes table
told c =
    c.segment_by-seg.ensures ∙ ap (λ look. first_says look c.loop-rest.rest.now) by-table

-- the segment ends within it
inside : (c : After-size-size) → told_first c.segment_by-seg.result ≡ first_says bytes c.loop-rest.rest.now
    → c.size-size.result ≤ length c.loop-rest.rest.now
inside c told =
    let l = c.loop-rest in
    rw c.size-size.ensures
    (size-inside c.args.text.now l.rest.now l.total l.invariant c.loop-rest-test.true c.segment_by-seg.result told)

pub slice_bounds-behind-count : goal.slice_bounds-behind-count
slice_bounds-behind-count c =
    let way = goal.at.slice_bounds-behind-count c in
    inside way.After-size-size (told way.After-segment_by-seg)

pub slice_bounds-behind-start : goal.slice_bounds-behind-start
slice_bounds-behind-start c =
    let way = goal.at.slice_bounds-behind-start c in
    let i = inside way.After-size-size (told way.After-segment_by-seg) in search rules

pub slice_bounds-behind-end : goal.slice_bounds-behind-end
slice_bounds-behind-end c =
    let way = goal.at.slice_bounds-behind-end c in
    let i = inside way.After-size-size (told way.After-segment_by-seg) in search rules

-- what is counted behind the segment and the run
turn : (c : After-places) → told_first c.segment_by-seg.result ≡ first_says bytes c.loop-rest.rest.now
    → Counts c.args.text.now (lent (lent c.loop-rest.rest.now c.size-size.result) c.paced_run-run.result)
    (c.loop-rest.total + (c.places.result + c.paced_run-run.result))
turn c told =
    let l = c.loop-rest in
    rw (c.size-size.ensures, c.places.ensures)
    (counts-turn c.args.text.now l.rest.now l.total l.invariant c.loop-rest-test.true c.segment_by-seg.result told
    l.pace c.paced_run-run.result (rw c.size-size.ensures at c.paced_run-run.ensures))

-- no more than any text of this length takes
few : (c : After-places) → told_first c.segment_by-seg.result ≡ first_says bytes c.loop-rest.rest.now
    → c.loop-rest.total + (c.places.result + c.paced_run-run.result) ≤ 0x3000000
few c told =
    let text = c.args.text.now in
    omega (arith, counts-few text _ _ (turn c told), text_few Bytes Bytes text, c.requires)

pub overflow_add-total : goal.overflow_add-total
overflow_add-total c =
    let way = goal.at.overflow_add-total c in
    omega (arith, few way.After-places (told way.After-segment_by-seg))

pub overflow_add-total-in-loop-rest : goal.overflow_add-total-in-loop-rest
overflow_add-total-in-loop-rest c =
    let way = goal.at.overflow_add-total-in-loop-rest c in
    omega (arith, few way.After-places (told way.After-segment_by-seg))

-- the run ends within what is behind the segment
ends : (c : After-paced_run-run)
    → c.paced_run-run.result ≤ length (lent c.loop-rest.rest.now c.size-size.result)
ends c =
    (run_paced (lent c.loop-rest.rest.now c.size-size.result) c.loop-rest.pace c.paced_run-run.result c.paced_run-run.ensures).inside

pub slice_bounds-rest-count : goal.slice_bounds-rest-count
slice_bounds-rest-count c = ends (goal.at.slice_bounds-rest-count c).After-paced_run-run

pub slice_bounds-rest-start : goal.slice_bounds-rest-start
slice_bounds-rest-start c = let i = ends (goal.at.slice_bounds-rest-start c).After-paced_run-run in search rules

pub slice_bounds-rest-end : goal.slice_bounds-rest-end
slice_bounds-rest-end c = let i = ends (goal.at.slice_bounds-rest-end c).After-paced_run-run in search rules

pub loop-rest-smaller : goal.loop-rest-smaller
loop-rest-smaller c =
    let way = goal.at.loop-rest-smaller c in
    let said = told way.After-segment_by-seg in
    let l = c.loop-rest in
    lent-less l.rest.now c.size-size.result c.paced_run-run.result (inside way.After-size-size said)
    (rw c.size-size.ensures
    (size-some c.args.text.now l.rest.now l.total l.invariant c.loop-rest-test.true c.segment_by-seg.result said))

pub loop-rest-preserved : goal.loop-rest-preserved
loop-rest-preserved c =
    let way = goal.at.loop-rest-preserved c in
    turn way.After-places (told way.After-segment_by-seg)

pub returns : goal.returns
returns c =
    counts_end c.args.text.now c.loop-rest.rest.now c.loop-rest.total c.loop-rest.invariant c.loop-rest-test.false
