-- `walk::need_of` meets its contract: the first run is counted, and the rest adds what is left.
use Prim.Native.Nat.{ℕ, ◌+◌}
use mathlib.Core.Path.{◌≡◌, ap, ◌∙◌}
use mathlib.Core.List.{List}
use lib.ListN.{length, drop, length-drop}
use native.Mathlib.Omega.{arith}
use Rattle.theory.specs.Reader.{parts}
use Rattle.terms.proofs.WalkBySegments.{part_is}
use Rattle.utf8.specs.Bytes.{bytes}
use Rattle.utf8_check.proofs.RunDivides.{Run}
use Rattle.utf8_check.proofs.StandingIsWhole.{run_at}
use Rattle.decoder.specs.Inside.Acting.{need}
use Rattle.decoder.proofs.SettledPlaces.{parts_small}
use Rattle.decoder.proofs.SettledWalk.{run-turn, Counted, counted_start, counted_next, counted-all}
use Rattle.decoder.proofs.walk.need_of.Goals.{After-need_on, After-whole_run-run}
use Rattle.decoder.proofs.walk.need_of.Goals as goal

-- the first run stands there, and is counted
whole : (c : After-whole_run-run) → Run c.args.text.now c.whole_run-run.result
whole c = run_at c.args.text.now c.whole_run-run.result c.whole_run-run.ensures

first : (c : After-whole_run-run)
    → let text = c.args.text.now in
    Counted text (drop c.whole_run-run.result text) (0 + c.whole_run-run.result)
first c =
    let text = c.args.text.now in
    counted_next text (counted_start text) (run-turn text c.whole_run-run.result (whole c))

pub returns-then-run-text : goal.returns-then-run-text
returns-then-run-text c =
    let text = c.args.text.now in
    let z : length (drop c.whole_run-run.result text) ≡ 0 = omega (arith, length-drop c.whole_run-run.result text, c.if-run-text.true) in
    omega (arith, counted-all text (first (goal.at.returns-then-run-text c).After-whole_run-run) z)

pub slice_bounds-need_on-count : goal.slice_bounds-need_on-count
slice_bounds-need_on-count c = (whole (goal.at.slice_bounds-need_on-count c).After-whole_run-run).inside

pub slice_bounds-need_on-start : goal.slice_bounds-need_on-start
slice_bounds-need_on-start c = (whole (goal.at.slice_bounds-need_on-start c).After-whole_run-run).inside

-- both are counted
both : (c : After-need_on)
    → let text = c.args.text.now in
    Counted text (drop c.whole_run-run.result text) (0 + c.whole_run-run.result)
    → c.whole_run-run.result + c.need_on.result ≡ need (parts bytes text).done
both c first =
    let text = c.args.text.now in
    let e : c.need_on.result ≡ need (parts bytes (drop c.whole_run-run.result text)).done
    = c.need_on.ensures ∙ ap (λ (xs : List ℕ). need (parts bytes xs).done) (part_is text c.whole_run-run.result) in
    omega (arith, e, first.same)

pub overflow_add-result : goal.overflow_add-result
overflow_add-result c =
    let way = goal.at.overflow_add-result c in
    omega (arith, both way.After-need_on (first way.After-whole_run-run), parts_small c.args.text.now, c.requires)

pub returns : goal.returns
returns c =
    let way = goal.at.returns c in
    both way.After-need_on (first way.After-whole_run-run)
