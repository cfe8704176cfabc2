-- `tally::walk_on` meets its contract: so much is tallied, and what is settled of the rest is still to be.
use Prim.Native.Nat.{ℕ, ◌≤◌}
use mathlib.Core.Path.{◌≡◌, refl, sym, ap, subst, ◌∙◌}
use mathlib.Core.List.{List}
use lib.ListN.{length, drop}
use native.Mathlib.Omega.{arith}
use Rattle.terms.specs.Told.{told_first, first_says}
use Rattle.terms.proofs.WalkBySegments.{part_is}
use Rattle.terms.proofs.WalkWrites.{lent, lent_both, lent-less}
use Rattle.utf8.specs.Bytes.{bytes}
use Rattle.utf8.specs.Classes.{classes}
use Rattle.utf8.proofs.ClassesRead.{table, by-table}
use Rattle.utf8_check.proofs.RunDivides.{Run}
use Rattle.utf8_check.proofs.RunsPassed.{run_paced}
use Rattle.utf8_pending.proofs.SettledFirst.{bytes-short, settled-inside, told-size}
use Rattle.decoder_shared.specs.Inside.Tallying.{log_of}
use Rattle.decoder_shared.proofs.TallyPlain.{pass-plain, take-plain}
use Rattle.decoder_to_utf16.proofs.TallyOfBytes.{Left, left-start, told-fits, told-next, told-end, run_room, run-next}
use Rattle.decoder_to_utf16.proofs.tally.walk_on.Goals.{After-take-tally, After-paced_run-run, After-segment_by-seg, After-settled_size-size, At-loop-pace}
use Rattle.decoder_to_utf16.proofs.tally.walk_on.Goals as goal

pub loop-pace-init : goal.loop-pace-init
loop-pace-init c =
    let a = c.args in
    (refl, left-start a.room a.text.now (log_of a.tally a.list.now) c.requires refl)

-- what was told of the rest of the text
says : (c : After-segment_by-seg) → told_first c.segment_by-seg.result ≡ first_says bytes c.loop-pace.rest.now
unfolding classes table
says c = c.segment_by-seg.ensures ∙ ap (λ look. first_says look c.loop-pace.rest.now) by-table

pub shape_of-list-then-size-eq0 : goal.shape_of-list-then-size-eq0
shape_of-list-then-size-eq0 c = c.loop-pace.invariant.0

pub returns-then-size-eq0 : goal.returns-then-size-eq0
returns-then-size-eq0 c =
    let a = c.args in
    told-end a.room a.text.now (log_of a.tally a.list.now) c.loop-pace.invariant.1 c.segment_by-seg.result
    (says (goal.at.returns-then-size-eq0 c).After-segment_by-seg)
    (sym c.settled_size-size.ensures ∙ c.if-size-eq0.true)

-- it is tallied
counted : (c : After-take-tally) → told_first c.segment_by-seg.result ≡ first_says bytes c.loop-pace.rest.now
    → let a = c.args in
    Left a.room a.text.now (log_of a.tally a.list.now) (drop c.settled_size-size.result c.loop-pace.rest.now)
    (log_of c.take-tally.result c.take-tally.new.list)
counted c said =
    let a = c.args in
    let fits = told-fits a.room a.text.now (log_of a.tally a.list.now) c.loop-pace.invariant.1 c.segment_by-seg.result said in
    rw c.settled_size-size.ensures
    (told-next a.room a.text.now (log_of a.tally a.list.now) c.loop-pace.invariant.1 c.segment_by-seg.result said
    (log_of c.take-tally.result c.take-tally.new.list)
    (take-plain c.loop-pace.tally a.room c.loop-pace.list c.segment_by-seg.result fits c.take-tally.ensures))

inside : (c : After-settled_size-size) → told_first c.segment_by-seg.result ≡ first_says bytes c.loop-pace.rest.now
    → c.settled_size-size.result ≤ length c.loop-pace.rest.now
inside c said =
    let rest = c.loop-pace.rest.now in
    rw (c.settled_size-size.ensures ∙ told-size c.segment_by-seg.result rest said) (settled-inside bytes-short rest)

pub slice_bounds-behind-count : goal.slice_bounds-behind-count
slice_bounds-behind-count c =
    let at = goal.at.slice_bounds-behind-count c in
    inside at.After-settled_size-size (says at.After-segment_by-seg)

pub slice_bounds-behind-start : goal.slice_bounds-behind-start
slice_bounds-behind-start c =
    let at = goal.at.slice_bounds-behind-start c in
    inside at.After-settled_size-size (says at.After-segment_by-seg)

-- the run stands there
next : (c : After-paced_run-run) → Run (drop c.settled_size-size.result c.loop-pace.rest.now) c.paced_run-run.result
next c =
    let size = c.settled_size-size.result in
    let rest = c.loop-pace.rest.now in
    run_paced (drop size rest) _ c.paced_run-run.result (rw (part_is rest size) at c.paced_run-run.ensures)

-- the run, as the code cuts it off
ends : (c : After-paced_run-run)
    → c.paced_run-run.result ≤ length (lent c.loop-pace.rest.now c.settled_size-size.result)
ends c =
    subst (λ (xs : List ℕ). c.paced_run-run.result ≤ length xs) (sym (part_is c.loop-pace.rest.now c.settled_size-size.result))
    (next c).inside

pub slice_bounds-rest-count : goal.slice_bounds-rest-count
slice_bounds-rest-count c = ends (goal.at.slice_bounds-rest-count c).After-paced_run-run

pub slice_bounds-rest-start : goal.slice_bounds-rest-start
slice_bounds-rest-start c = ends (goal.at.slice_bounds-rest-start c).After-paced_run-run

pub loop-pace-smaller : goal.loop-pace-smaller
loop-pace-smaller c =
    let at = goal.at.loop-pace-smaller c in
    lent-less c.loop-pace.rest.now c.settled_size-size.result c.paced_run-run.result
    (inside at.After-settled_size-size (says at.After-segment_by-seg))
    (omega (arith, c.if-size-eq0.false))

-- and is passed
pub loop-pace-preserved : goal.loop-pace-preserved
loop-pace-preserved c =
    let a = c.args in
    let entry = log_of a.tally a.list.now in
    let list = c.take-tally.new.list in
    let ran = log_of c.pass-tally.result list in
    let at = goal.at.loop-pace-preserved c in
    let here = counted at.After-take-tally (says at.After-segment_by-seg) in
    let fits = run_room a.room a.text.now entry here c.paced_run-run.result (next at.After-paced_run-run) in (
      c.take-tally.auto.list ∙ c.loop-pace.invariant.0,
      subst (λ (rest : List ℕ). Left a.room a.text.now entry rest ran)
          (sym (lent_both c.loop-pace.rest.now c.settled_size-size.result c.paced_run-run.result))
          (run-next a.room a.text.now entry here
          c.paced_run-run.result (next at.After-paced_run-run) ran (pass-plain c.take-tally.result c.paced_run-run.result fits c.pass-tally.ensures list)),
    )
