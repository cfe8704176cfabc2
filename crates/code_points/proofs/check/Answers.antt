-- `check` meets its contract: up to the place that the walk has come to there is no damage.
use mathlib.Core.List.{[], ◌∷◌}
use native.Mathlib.Omega.{arith}
use Rattle.theory.specs.Table.{whole}
use Rattle.terms.proofs.WalkBySegments.{Turn, turn-whole, turn-damage, turn-begun, turn_end}
use Rattle.terms.proofs.WalkBySegments.{clean-start, clean-whole, check-over, check-end, check-damage}
use Rattle.code_points.specs.Points.{points, no_scalar}
use Rattle.code_points.proofs.CodePointsDivide.{points_division}
use Rattle.code_points.proofs.check.Goals.{In-Whole}
use Rattle.code_points.proofs.check.Goals as goal

pub returns-then-text-gt-LIMIT : goal.returns-then-text-gt-LIMIT
returns-then-text-gt-LIMIT c = check-over c.args.text.now _ c.if-text-gt-LIMIT.true

pub loop-n-init : goal.loop-n-init
loop-n-init c = clean-start points c.args.text.now

pub returns-in-Nothing : goal.returns-in-Nothing
returns-in-Nothing c =
    let text = c.args.text.now in
    check-end text c.loop-n.at c.loop-n.invariant no_scalar (0 ∷ []) c.if-text-gt-LIMIT.false
    (turn_end points_division text c.loop-n.at c.loop-n.invariant.inside _ c.segment.ensures c.in-Nothing.is)

-- behind a whole segment
turned : (c : In-Whole)
    → Turn points c.args.text.now c.loop-n.at c.in-Whole.n whole
turned c =
    turn-whole points_division c.args.text.now c.loop-n.at c.loop-n.invariant.inside _
    c.segment.ensures _ c.in-Whole.is

pub overflow_add-at : goal.overflow_add-at
overflow_add-at c = let t = turned c in omega (arith, t.inside)

pub loop-n-smaller : goal.loop-n-smaller
loop-n-smaller c = let t = turned c in omega (arith, t.some, t.inside)

pub loop-n-preserved : goal.loop-n-preserved
loop-n-preserved c =
    clean-whole c.args.text.now c.loop-n.at c.loop-n.invariant _ (turned c)

pub returns-in-Damage : goal.returns-in-Damage
returns-in-Damage c =
    let text = c.args.text.now in
    check-damage text c.loop-n.at c.loop-n.invariant no_scalar (0 ∷ []) c.if-text-gt-LIMIT.false _ _
    (turn-damage points_division text c.loop-n.at c.loop-n.invariant.inside _ c.segment.ensures _ _ c.in-Damage.is)

pub returns-in-Begun : goal.returns-in-Begun
returns-in-Begun c =
    let text = c.args.text.now in
    check-damage text c.loop-n.at c.loop-n.invariant no_scalar (0 ∷ []) c.if-text-gt-LIMIT.false _ _
    (turn-begun points_division text c.loop-n.at c.loop-n.invariant.inside _ c.segment.ensures _ c.in-Begun.is)
