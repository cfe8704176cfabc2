-- `tally::walk` meets its contract: up to the place that it has come to, all that is settled is tallied.
use mathlib.Core.Path.{refl, ◌∙◌}
use Prim.Native.Nat.{◌+◌, ◌≤◌}
use lib.ListN.{length}
use native.Mathlib.Omega.{arith}
use Rattle.theory.specs.Tally.{Log}
use Rattle.terms.specs.Limits.{limit}
use Rattle.terms.specs.Told.{number_of}
use Rattle.utf16.proofs.RowsOfUnits.{units_division}
use Rattle.decoder_shared.specs.Inside.Steps.{passed, struck}
use Rattle.decoder_shared.proofs.TalliedWalk.{Walked, walked_start}
use Rattle.decoder_shared.specs.Inside.Tallying.{log_of}
use Rattle.decoder_shared.proofs.TallyPlain.{pass-plain, strike-plain}
use Rattle.decoder_from_utf16.proofs.TallyOfUnits.{run_room, run-next, Next, next-whole, next-damage, end-nothing, end-begun}
use borrow.Author.Rules.{rules}
use Rattle.decoder_from_utf16.proofs.tally.walk.Goals.{After-alone_run-run, After-pass-tally, In-Damage, In-Whole}
use Rattle.decoder_from_utf16.proofs.tally.walk.Goals as goal

pub loop-n-init : goal.loop-n-init
loop-n-init c =
    let a = c.args in
    (refl, walked_start units_division a.room a.text.now (log_of a.tally a.list.now) c.requires refl)

pub offset_bounds-text-at : goal.offset_bounds-text-at
offset_bounds-text-at c = let i = c.loop-n.invariant.1.inside in search rules

pub slice_bounds-alone_run-count : goal.slice_bounds-alone_run-count
slice_bounds-alone_run-count c = c.loop-n.invariant.1.inside

pub slice_bounds-alone_run-start : goal.slice_bounds-alone_run-start
slice_bounds-alone_run-start c = let i = c.loop-n.invariant.1.inside in search rules

-- there is room for the run
found : (c : After-alone_run-run)
    → (c.loop-n.at + c.alone_run-run.result ≤ length c.args.text.now)
    × (c.loop-n.tally.whole + c.alone_run-run.result ≤ limit)
found c =
    let a = c.args in
    run_room a.room a.text.now (log_of a.tally a.list.now) c.loop-n.invariant.1 c.alone_run-run.result c.alone_run-run.ensures.0

-- behind the run
ran : (c : After-pass-tally) → c.loop-n.tally.whole + c.alone_run-run.result ≤ limit → let a = c.args in
    Walked units_division a.room a.text.now (log_of a.tally a.list.now) (c.loop-n.at + c.alone_run-run.result)
    (log_of c.pass-tally.result c.loop-n.list)
ran c fits =
    let a = c.args in
    let run = c.alone_run-run in
    run-next a.room a.text.now (log_of a.tally a.list.now) c.loop-n.invariant.1 run.result run.ensures.0 run.ensures.1 _
    (pass-plain c.loop-n.tally run.result fits c.pass-tally.ensures c.loop-n.list)

pub overflow_add-at : goal.overflow_add-at
overflow_add-at c = omega (arith, (found (goal.at.overflow_add-at c).After-alone_run-run).0)

pub next_block-block-requires : goal.next_block-block-requires
next_block-block-requires c = omega (arith, (found (goal.at.next_block-block-requires c).After-alone_run-run).0, c.requires.sums)

pub offset_bounds-text-at-in-loop-n : goal.offset_bounds-text-at-in-loop-n
offset_bounds-text-at-in-loop-n c = let i = (found (goal.at.offset_bounds-text-at-in-loop-n c).After-alone_run-run).0 in search rules

pub slice_bounds-segment-count : goal.slice_bounds-segment-count
slice_bounds-segment-count c = (found (goal.at.slice_bounds-segment-count c).After-alone_run-run).0

pub slice_bounds-segment-start : goal.slice_bounds-segment-start
slice_bounds-segment-start c = let i = (found (goal.at.slice_bounds-segment-start c).After-alone_run-run).0 in search rules

pub shape_of-list-in-Nothing : goal.shape_of-list-in-Nothing
shape_of-list-in-Nothing c = c.loop-n.invariant.0

pub returns-in-Nothing : goal.returns-in-Nothing
returns-in-Nothing c =
    let a = c.args in
    end-nothing a.room a.text.now (log_of a.tally a.list.now) (ran (goal.at.returns-in-Nothing c).After-pass-tally (found (goal.at.returns-in-Nothing c).After-alone_run-run).1)
    c.segment.result c.segment.ensures c.in-Nothing.is

-- a whole segment stands there
whole : (c : In-Whole) {l₀ l : Log} (w : Walked units_division c.args.room c.args.text.now l₀ (c.loop-n.at + c.alone_run-run.result) l)
    → let n = c.in-Whole.n in
    Next c.args.room c.args.text.now l₀ w n (passed n l)
whole c w = next-whole c.args.room c.args.text.now _ w c.segment.result c.segment.ensures _ c.in-Whole.is

pub overflow_add-at-in-Whole : goal.overflow_add-at-in-Whole
overflow_add-at-in-Whole c =
    let at = goal.at.overflow_add-at-in-Whole c in
    let n = whole at.In-Whole (ran at.After-pass-tally (found at.After-alone_run-run).1) in
    omega (arith, n.inside_is)

pub loop-n-smaller-in-Whole : goal.loop-n-smaller-in-Whole
loop-n-smaller-in-Whole c =
    let at = goal.at.loop-n-smaller-in-Whole c in
    let n = whole at.In-Whole (ran at.After-pass-tally (found at.After-alone_run-run).1) in
    omega (arith, n.some, n.inside_is)

pub loop-n-preserved-in-Whole : goal.loop-n-preserved-in-Whole
loop-n-preserved-in-Whole c =
    let at = goal.at.loop-n-preserved-in-Whole c in
    let n = whole at.In-Whole (ran at.After-pass-tally (found at.After-alone_run-run).1) in
    (c.loop-n.invariant.0, n.walks _ (pass-plain c.pass-tally.result c.in-Whole.n (omega (arith, n.fits.sums)) c.pass-tally-in-Whole.ensures c.loop-n.list))

-- damage stands there
damaged : (c : In-Damage) {l₀ l : Log}
    (w : Walked units_division c.args.room c.args.text.now l₀ (c.loop-n.at + c.alone_run-run.result) l)
    → let n = c.in-Damage.n in
    Next c.args.room c.args.text.now l₀ w n (struck c.args.room n (number_of c.in-Damage.cause) l)
damaged c w = next-damage c.args.room c.args.text.now _ w c.segment.result c.segment.ensures _ _ c.in-Damage.is

pub overflow_add-at-in-Damage : goal.overflow_add-at-in-Damage
overflow_add-at-in-Damage c =
    let at = goal.at.overflow_add-at-in-Damage c in
    let n = damaged at.In-Damage (ran at.After-pass-tally (found at.After-alone_run-run).1) in
    omega (arith, n.inside_is)

pub loop-n-smaller : goal.loop-n-smaller
loop-n-smaller c =
    let at = goal.at.loop-n-smaller c in
    let n = damaged at.In-Damage (ran at.After-pass-tally (found at.After-alone_run-run).1) in
    omega (arith, n.some, n.inside_is)

pub loop-n-preserved : goal.loop-n-preserved
loop-n-preserved c =
    let at = goal.at.loop-n-preserved c in
    let n = damaged at.In-Damage (ran at.After-pass-tally (found at.After-alone_run-run).1) in
    (c.strike-tally.auto.list ∙ c.loop-n.invariant.0, n.walks _ (strike-plain c.pass-tally.result c.args.room c.loop-n.list c.in-Damage.n (number_of c.in-Damage.cause) n.fits c.strike-tally.ensures))

pub shape_of-list-in-Begun : goal.shape_of-list-in-Begun
shape_of-list-in-Begun c = c.loop-n.invariant.0

pub returns-in-Begun : goal.returns-in-Begun
returns-in-Begun c =
    let a = c.args in
    end-begun a.room a.text.now (log_of a.tally a.list.now) (ran (goal.at.returns-in-Begun c).After-pass-tally (found (goal.at.returns-in-Begun c).After-alone_run-run).1)
    c.segment.result c.segment.ensures _ c.in-Begun.is
