-- `check` meets its contract: up to the place that the walk has come to there is no damage.
use Prim.Native.Nat.{◌+◌, ◌≤◌}
use mathlib.Core.Path.{◌∙◌}
use mathlib.Core.List.{[], ◌∷◌}
use native.Mathlib.Omega.{arith}
use Rattle.theory.specs.Table.{whole}
use Rattle.terms.specs.Strict.{damaged}
use Rattle.terms.proofs.WalkBySegments.{part_is, Turn, turn-whole, turn-damage, turn-begun, turn_end}
use Rattle.terms.proofs.WalkBySegments.{Clean, clean-start, clean-whole, check-over, check-end, check-damage}
use Rattle.utf16.specs.Units.{units}
use Rattle.utf16.proofs.RowsOfUnits.{units_division}
use Rattle.utf16_check.proofs.PairedIsWhole.{clean_to}
use borrow.Author.Rules.{rules}
use Rattle.utf16_check.proofs.check.Goals.{After-whole_blocks-at, In-Whole, Joined-block-at, then-block-at, else-block-at}
use Rattle.utf16_check.proofs.check.Goals as goal

pub returns-then-text-gt-LIMIT : goal.returns-then-text-gt-LIMIT
returns-then-text-gt-LIMIT c = check-over c.args.text.now _ c.if-text-gt-LIMIT.true

pub loop-block-init : goal.loop-block-init
loop-block-init c = clean-start units c.args.text.now

-- the units passed are whole segments
skipped : (c : After-whole_blocks-at)
    → Clean units c.args.text.now (c.loop-block.at + c.whole_blocks-at.result)
skipped c =
    let t = c.args.text.now in
    clean_to t c.loop-block.at c.whole_blocks-at.result c.loop-block.invariant (rw part_is at c.whole_blocks-at.ensures)

-- as they were, or behind them
here : (c : Joined-block-at) → Clean units c.args.text.now c.if-block-at.at
here c =
    let t = c.args.text.now in
    elim c.if-block-at.branch [
      | then-block-at w ↦ rw w.at-is (clean_to t c.loop-block.at w.whole_blocks-at.result c.loop-block.invariant (rw part_is at w.whole_blocks-at.ensures))
      | else-block-at w ↦ rw w.at-is c.loop-block.invariant
    ]

onward : (c : Joined-block-at) → c.loop-block.at ≤ c.if-block-at.at
onward c =
    elim c.if-block-at.branch [ then-block-at w ↦ rw w.at-is (omega arith) | else-block-at w ↦ rw w.at-is (omega arith) ]

pub overflow_add-at : goal.overflow_add-at
overflow_add-at c = let p = c.loop-block.invariant in omega (arith, p.inside, skipped c)

pub overflow_add-block : goal.overflow_add-block
overflow_add-block c = omega (arith, skipped c)

pub offset_bounds-text-at-in-loop-block : goal.offset_bounds-text-at-in-loop-block
offset_bounds-text-at-in-loop-block c = let i = (here (goal.at.offset_bounds-text-at-in-loop-block c).Joined-block-at).inside in search rules

pub slice_bounds-segment-count : goal.slice_bounds-segment-count
slice_bounds-segment-count c = let i = (here (goal.at.slice_bounds-segment-count c).Joined-block-at).inside in search rules

pub slice_bounds-segment-start : goal.slice_bounds-segment-start
slice_bounds-segment-start c = let i = (here (goal.at.slice_bounds-segment-start c).Joined-block-at).inside in search rules

pub returns-in-Nothing : goal.returns-in-Nothing
returns-in-Nothing c =
    let text = c.args.text.now in
    check-end text c.if-block-at.at (here (goal.at.returns-in-Nothing c).Joined-block-at) damaged (0 ∷ []) c.if-text-gt-LIMIT.false
    (turn_end units_division text c.if-block-at.at (here (goal.at.returns-in-Nothing c).Joined-block-at).inside _ c.segment.ensures c.in-Nothing.is)

-- behind a whole segment
turned : (c : In-Whole)
    → Clean units c.args.text.now c.if-block-at.at
    → Turn units c.args.text.now c.if-block-at.at c.in-Whole.n whole
turned c clean = turn-whole units_division c.args.text.now c.if-block-at.at clean.inside _ c.segment.ensures _ c.in-Whole.is

pub overflow_add-at-in-Whole : goal.overflow_add-at-in-Whole
overflow_add-at-in-Whole c = let t = turned c (here (goal.at.overflow_add-at-in-Whole c).Joined-block-at) in omega (arith, t.inside)

pub loop-block-smaller : goal.loop-block-smaller
loop-block-smaller c =
    let t = turned c (here (goal.at.loop-block-smaller c).Joined-block-at) in
    omega (arith, t.some, t.inside, onward (goal.at.loop-block-smaller c).Joined-block-at)

pub loop-block-preserved : goal.loop-block-preserved
loop-block-preserved c =
    clean-whole c.args.text.now c.if-block-at.at (here (goal.at.loop-block-preserved c).Joined-block-at) _
    (turned c (here (goal.at.loop-block-preserved c).Joined-block-at))

pub returns-in-Damage : goal.returns-in-Damage
returns-in-Damage c =
    let text = c.args.text.now in
    c.damaged.ensures
    ∙ check-damage text c.if-block-at.at (here (goal.at.returns-in-Damage c).Joined-block-at) damaged (0 ∷ []) c.if-text-gt-LIMIT.false _ _
    (turn-damage units_division text c.if-block-at.at (here (goal.at.returns-in-Damage c).Joined-block-at).inside _ c.segment.ensures _ _ c.in-Damage.is)

pub returns-in-Begun : goal.returns-in-Begun
returns-in-Begun c =
    let text = c.args.text.now in
    c.damaged-in-Begun.ensures
    ∙ check-damage text c.if-block-at.at (here (goal.at.returns-in-Begun c).Joined-block-at) damaged (0 ∷ []) c.if-text-gt-LIMIT.false _ _
    (turn-begun units_division text c.if-block-at.at (here (goal.at.returns-in-Begun c).Joined-block-at).inside _ c.segment.ensures _ c.in-Begun.is)
