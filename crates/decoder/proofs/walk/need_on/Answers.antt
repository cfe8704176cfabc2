-- `walk::need_on` meets its contract: so much is counted, and the rest adds what is left.
use Prim.Native.Nat.{ℕ, ◌+◌, ◌≤◌}
use mathlib.Core.Path.{sym, ap, subst, ◌∙◌}
use mathlib.Core.List.{List}
use lib.ListN.{length, drop}
use native.Mathlib.Omega.{arith}
use Rattle.terms.specs.Told.{first_says}
use Rattle.terms.proofs.WalkBySegments.{part_is}
use Rattle.terms.proofs.WalkWrites.{lent, lent_both, lent-less}
use Rattle.utf8.specs.Classes.{classes}
use Rattle.utf8.proofs.ClassesRead.{table, by-table}
use Rattle.utf8_check.proofs.RunDivides.{Run}
use Rattle.utf8_check.proofs.RunsPassed.{run_paced}
use Rattle.decoder.proofs.SettledByReader.{Told, told}
use Rattle.decoder.proofs.SettledWalk.{told-turn, run-turn, Counted, counted_start, counted-small, counted_next, counted-end}
use Rattle.decoder.proofs.walk.need_on.Goals.{After-paced_run-run, After-places, After-segment_by-seg, After-settled_size-size}
use Rattle.decoder.proofs.walk.need_on.Goals as goal

pub loop-rest-init : goal.loop-rest-init
loop-rest-init c = counted_start c.args.text.now

-- what was told of the rest of the text
seen : (c : After-segment_by-seg) → Told c.segment_by-seg.result c.loop-rest.rest.now
unfolding classes table
seen c =
    let rest = c.loop-rest.rest.now in
    told c.segment_by-seg.result rest (c.segment_by-seg.ensures ∙ ap (λ look. first_says look rest) by-table)

pub returns-then-size-eq0 : goal.returns-then-size-eq0
returns-then-size-eq0 c =
    counted-end c.args.text.now c.loop-rest.invariant (seen (goal.at.returns-then-size-eq0 c).After-segment_by-seg)
    (sym c.settled_size-size.ensures ∙ c.if-size-eq0.true)

-- it lies in the rest
inside : (c : After-settled_size-size) → Told c.segment_by-seg.result c.loop-rest.rest.now
    → c.settled_size-size.result ≤ length c.loop-rest.rest.now
inside c seen = rw c.settled_size-size.ensures (told-turn c.loop-rest.rest.now seen).inside

pub slice_bounds-behind-count : goal.slice_bounds-behind-count
slice_bounds-behind-count c =
    let way = goal.at.slice_bounds-behind-count c in
    inside way.After-settled_size-size (seen way.After-segment_by-seg)

pub slice_bounds-behind-start : goal.slice_bounds-behind-start
slice_bounds-behind-start c =
    let way = goal.at.slice_bounds-behind-start c in
    inside way.After-settled_size-size (seen way.After-segment_by-seg)

-- the run stands behind it
next : (c : After-paced_run-run)
    → Run (drop c.settled_size-size.result c.loop-rest.rest.now) c.paced_run-run.result
next c =
    let rest = c.loop-rest.rest.now in
    run_paced (drop c.settled_size-size.result rest) _ c.paced_run-run.result
    (rw (part_is rest c.settled_size-size.result) at c.paced_run-run.ensures)

-- both are counted
counted : (c : After-places) → Told c.segment_by-seg.result c.loop-rest.rest.now
    → Run (drop c.settled_size-size.result c.loop-rest.rest.now) c.paced_run-run.result
    → Counted c.args.text.now (drop c.paced_run-run.result (drop c.settled_size-size.result c.loop-rest.rest.now))
    (c.loop-rest.n + c.places.result + c.paced_run-run.result)
counted c seen next =
    let text = c.args.text.now in
    let rest = c.loop-rest.rest.now in
    let one : Counted text (drop c.settled_size-size.result rest) (c.loop-rest.n + c.places.result)
    = rw (c.settled_size-size.ensures, c.places.ensures) (counted_next text c.loop-rest.invariant (told-turn rest seen)) in
    counted_next text one (run-turn (drop c.settled_size-size.result rest) c.paced_run-run.result next)

pub overflow_add-n : goal.overflow_add-n
overflow_add-n c =
    let way = goal.at.overflow_add-n c in
    let both = counted way.After-places (seen way.After-segment_by-seg) (next way.After-paced_run-run) in
    omega (arith, c.requires, counted-small c.args.text.now both)

pub overflow_add-n-in-loop-rest : goal.overflow_add-n-in-loop-rest
overflow_add-n-in-loop-rest c =
    let way = goal.at.overflow_add-n-in-loop-rest c in
    let both = counted way.After-places (seen way.After-segment_by-seg) (next way.After-paced_run-run) in
    omega (arith, c.requires, counted-small c.args.text.now both)

-- it lies there, as the code cuts it off
ends : (c : After-paced_run-run)
    → c.paced_run-run.result ≤ length (lent c.loop-rest.rest.now c.settled_size-size.result)
ends c =
    subst (λ (xs : List ℕ). c.paced_run-run.result ≤ length xs)
    (sym (part_is c.loop-rest.rest.now c.settled_size-size.result)) (next c).inside

pub slice_bounds-rest-count : goal.slice_bounds-rest-count
slice_bounds-rest-count c = ends (goal.at.slice_bounds-rest-count c).After-paced_run-run

pub slice_bounds-rest-start : goal.slice_bounds-rest-start
slice_bounds-rest-start c = ends (goal.at.slice_bounds-rest-start c).After-paced_run-run

pub loop-rest-smaller : goal.loop-rest-smaller
loop-rest-smaller c =
    let way = goal.at.loop-rest-smaller c in
    lent-less c.loop-rest.rest.now c.settled_size-size.result c.paced_run-run.result
    (inside way.After-settled_size-size (seen way.After-segment_by-seg)) (omega (arith, c.if-size-eq0.false))

pub loop-rest-preserved : goal.loop-rest-preserved
loop-rest-preserved c =
    let way = goal.at.loop-rest-preserved c in
    let both = counted way.After-places (seen way.After-segment_by-seg) (next way.After-paced_run-run) in
    subst (λ (rest : List ℕ). Counted c.args.text.now rest (c.loop-rest.n + (c.places.result + c.paced_run-run.result)))
    (sym (lent_both c.loop-rest.rest.now c.settled_size-size.result c.paced_run-run.result))
    (record { same = omega (arith, both.same) })
