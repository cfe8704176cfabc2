-- `point` meets its contract: each arm is a law of `Pointing`, and a whole segment is a unit or a pair.
use mathlib.Core.Path.{◌≡◌}
use native.Mathlib.Omega.{arith}
use Rattle.terms.proofs.PointTold.{Pointed, says_of, point-nothing, point-whole, point-damage, point-begun}
use Rattle.utf16.specs.Scalar.{utf16}
use Rattle.utf16.proofs.RowsOfUnits.{FirstHalf, SecondHalf, units_division}
use Rattle.utf16.proofs.ReaderTells.{whole_pair}
use Rattle.utf16.proofs.point.Goals.{After-from-y, In-Whole}
use Rattle.utf16.proofs.point.Goals as goal

-- a whole segment
pointed : (c : In-Whole)
    → Pointed utf16 c.args.text.now c.in-Whole.n
pointed c =
    point-whole utf16 units_division c.args.text.now _ c.segment.ensures _ c.in-Whole.is

pub bounds-text-0 : goal.bounds-text-0
bounds-text-0 c = let p = pointed (goal.at.bounds-text-0 c).In-Whole in omega (arith, p.some, p.inside)

pub returns-then-n-eq1 : goal.returns-then-n-eq1
returns-then-n-eq1 c = rw c.from-x.ensures (says_of (pointed (goal.at.returns-then-n-eq1 c).In-Whole) 1 c.if-n-eq1.true)

pub bounds-text-1 : goal.bounds-text-1
bounds-text-1 c = let p = pointed (goal.at.bounds-text-1 c).In-Whole in omega (arith, p.some, p.inside)

-- a pair
halves : (c : After-from-y) → Pointed utf16 c.args.text.now c.in-Whole.n
    → (c.in-Whole.n ≡ 2) × FirstHalf c.from-x.result × SecondHalf c.from-y.result
halves c p = rw (c.from-x.ensures, c.from-y.ensures) (whole_pair _ _ p (omega (arith, p.some)))

pub overflow_sub-result : goal.overflow_sub-result
overflow_sub-result c = omega (arith, halves c (pointed (goal.at.overflow_sub-result c).In-Whole))

pub overflow_mul-result : goal.overflow_mul-result
overflow_mul-result c = omega (arith, halves c (pointed (goal.at.overflow_mul-result c).In-Whole))

pub overflow_add-result : goal.overflow_add-result
overflow_add-result c = omega (arith, halves c (pointed (goal.at.overflow_add-result c).In-Whole))

pub overflow_sub-result-in-Whole : goal.overflow_sub-result-in-Whole
overflow_sub-result-in-Whole c = omega (arith, halves c (pointed (goal.at.overflow_sub-result-in-Whole c).In-Whole))

pub overflow_add-result-in-Whole : goal.overflow_add-result-in-Whole
overflow_add-result-in-Whole c = omega (arith, halves c (pointed (goal.at.overflow_add-result-in-Whole c).In-Whole))

pub returns-in-Nothing : goal.returns-in-Nothing
returns-in-Nothing c =
    point-nothing utf16 units_division c.args.text.now _ c.segment.ensures c.in-Nothing.is

pub returns-else-n-eq1 : goal.returns-else-n-eq1
returns-else-n-eq1 c =
    let p = pointed (goal.at.returns-else-n-eq1 c).In-Whole in
    rw (c.from-x.ensures, c.from-y.ensures) (says_of p 2 (halves c p).0)

pub returns-in-Damage : goal.returns-in-Damage
returns-in-Damage c =
    point-damage utf16 units_division c.args.text.now _ c.segment.ensures _ _ c.in-Damage.is

pub returns-in-Begun : goal.returns-in-Begun
returns-in-Begun c =
    point-begun utf16 units_division c.args.text.now _ c.segment.ensures _ c.in-Begun.is
