-- `check` meets its contract: up to the end of the whole run there is no damage, and behind it there is, or no text.
use mathlib.Core.Path.{sym, ap, ◌∙◌}
use mathlib.Core.List.{[], ◌∷◌}
use lib.ListN.{drop_of_length-le}
use native.Mathlib.Omega.{arith}
use Rattle.terms.specs.Strict.{damaged}
use Rattle.terms.specs.Told.{told_cause}
use Rattle.terms.proofs.ToldBack.{caused-told}
use Rattle.terms.proofs.WalkBySegments.{Clean, check-over, check-end, check-damage}
use Rattle.utf8.specs.Bytes.{bytes}
use Rattle.utf8_check.proofs.RunDivides.{run-clean, stop-turn, stop-caused}
use Rattle.utf8_check.proofs.StandingIsWhole.{run_at, stops_at}
use Rattle.utf8_check.proofs.check.Goals.{After-whole_run-start}
use Rattle.utf8_check.proofs.check.Goals as goal

pub returns-then-text-gt-LIMIT : goal.returns-then-text-gt-LIMIT
returns-then-text-gt-LIMIT c = check-over c.args.text.now _ c.if-text-gt-LIMIT.true

-- behind the whole run
clean : (c : After-whole_run-start) → Clean bytes c.args.text.now c.whole_run-start.result
clean c =
    let text = c.args.text.now in
    run-clean text c.whole_run-start.result (run_at text c.whole_run-start.result c.whole_run-start.ensures)

pub returns-then-start-text : goal.returns-then-start-text
returns-then-start-text c =
    let text = c.args.text.now in
    check-end text c.whole_run-start.result (clean (goal.at.returns-then-start-text c).After-whole_run-start) damaged (0 ∷ []) c.if-text-gt-LIMIT.false (drop_of_length-le text {i = c.whole_run-start.result} (omega (arith, c.if-start-text.true)))

pub slice_bounds-segment-count : goal.slice_bounds-segment-count
slice_bounds-segment-count c = omega (arith, (clean (goal.at.slice_bounds-segment-count c).After-whole_run-start).inside)

pub slice_bounds-segment-start : goal.slice_bounds-segment-start
slice_bounds-segment-start c = omega (arith, (clean (goal.at.slice_bounds-segment-start c).After-whole_run-start).inside)

pub returns-in-Some : goal.returns-in-Some
returns-in-Some c =
    let n = c.whole_run-start.result in
    let text = c.args.text.now in
    c.damaged.ensures
    ∙ rw (c.size.ensures, ap told_cause (sym c.in-Some.is ∙ c.cause.ensures) ∙ caused-told c.segment-damage.result)
    (check-damage text n (clean (goal.at.returns-in-Some c).After-whole_run-start) damaged (0 ∷ []) c.if-text-gt-LIMIT.false _ _
    (stop-turn text n (stops_at text n c.whole_run-start.ensures) (omega (arith, (clean (goal.at.returns-in-Some c).After-whole_run-start).inside, c.if-start-text.false)) c.segment-damage.result c.segment-damage.ensures))

pub returns-in-None : goal.returns-in-None
returns-in-None c =
    let n = c.whole_run-start.result in
    let text = c.args.text.now in
    absurd (stop-caused text n (stops_at text n c.whole_run-start.ensures)
    (omega (arith, (clean (goal.at.returns-in-None c).After-whole_run-start).inside, c.if-start-text.false))
    c.segment-damage.result c.segment-damage.ensures (sym c.cause.ensures ∙ c.in-None.is))
