-- `point` meets its contract: each arm is a law of `Pointing`, and a whole segment is one number.
use native.Mathlib.Omega.{arith}
use Rattle.terms.proofs.PointTold.{Pointed, says_of, point-nothing, point-whole, point-damage, point-begun}
use Rattle.code_points.specs.Points.{points, code_points}
use Rattle.code_points.proofs.CodePointsDivide.{points_division}
use Rattle.code_points.proofs.point.Goals.{In-Whole}
use Rattle.code_points.proofs.point.Goals as goal

-- a whole segment
pointed : (c : In-Whole)
    → Pointed code_points c.args.text.now c.in-Whole.n
pointed c =
    point-whole code_points points_division c.args.text.now _ c.segment.ensures _ c.in-Whole.is

pub bounds-text-0 : goal.bounds-text-0
bounds-text-0 c = let p = pointed (goal.at.bounds-text-0 c).In-Whole in omega (arith, p.some, p.inside)

pub returns-in-Nothing : goal.returns-in-Nothing
returns-in-Nothing c =
    point-nothing code_points points_division c.args.text.now _ c.segment.ensures c.in-Nothing.is

pub returns-in-Whole : goal.returns-in-Whole
unfolding points
returns-in-Whole c = let p = pointed (goal.at.returns-in-Whole c).In-Whole in says_of p 1 p.seen_as.long-is

pub returns-in-Damage : goal.returns-in-Damage
returns-in-Damage c =
    point-damage code_points points_division c.args.text.now _ c.segment.ensures _ _ c.in-Damage.is

pub returns-in-Begun : goal.returns-in-Begun
returns-in-Begun c =
    point-begun code_points points_division c.args.text.now _ c.segment.ensures _ c.in-Begun.is
