-- `point_by` meets its contract: each arm is a law of what a point tells, and a whole segment has the number of its bytes.
use native.Mathlib.Omega.{arith}
use Rattle.terms.proofs.PointTold.{Pointed, point-nothing, point-whole, point-damage, point-begun}
use Rattle.utf8.specs.Scalar.{utf8_by}
use Rattle.utf8.proofs.ClassesDivide.{classes_division, classes-top}
use Rattle.utf8.proofs.point_by.Goals.{In-Whole}
use Rattle.utf8.proofs.point_by.Goals as goal

-- a whole segment
pointed : (c : In-Whole)
    → Pointed (utf8_by c.args.classes.now) c.args.text.now c.in-Whole.n
pointed c =
    point-whole (utf8_by c.args.classes.now) (classes_division c.args.classes.now) c.args.text.now _ c.segment_by.ensures _ c.in-Whole.is

pub number_of-requires : goal.number_of-requires
number_of-requires c =
    let p = pointed c in
    let s = p.seen_as in
    record {
      n_nonzero = omega (arith, p.some, p.inside, s.long-is, classes-top c.args.classes.now s.head s.tail);
      n_bound = omega (arith, p.some, p.inside, s.long-is, classes-top c.args.classes.now s.head s.tail);
      n_in_bounds = omega (arith, p.some, p.inside, s.long-is, classes-top c.args.classes.now s.head s.tail);
    }

pub returns-in-Nothing : goal.returns-in-Nothing
returns-in-Nothing c =
    point-nothing (utf8_by c.args.classes.now) (classes_division c.args.classes.now) c.args.text.now _ c.segment_by.ensures c.in-Nothing.is

pub returns-in-Whole : goal.returns-in-Whole
returns-in-Whole c = rw c.number_of.ensures (pointed (goal.at.returns-in-Whole c).In-Whole).says

pub returns-in-Damage : goal.returns-in-Damage
returns-in-Damage c =
    point-damage (utf8_by c.args.classes.now) (classes_division c.args.classes.now) c.args.text.now _ c.segment_by.ensures _ _ c.in-Damage.is

pub returns-in-Begun : goal.returns-in-Begun
returns-in-Begun c =
    point-begun (utf8_by c.args.classes.now) (classes_division c.args.classes.now) c.args.text.now _ c.segment_by.ensures _ c.in-Begun.is
