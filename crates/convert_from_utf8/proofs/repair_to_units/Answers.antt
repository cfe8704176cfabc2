-- Refusal 2, then 3, then the form is written; where there is room for any text of this length, refusal 3 is not due.
use Prim.Native.Nat.{◌≤◌}
use lib.ListN.{length}
use native.Mathlib.Omega.{arith}
use Rattle.terms.specs.Form.{converted}
use Rattle.terms.proofs.AnswersWritten.{repair-over, repair-short, repair-done}
use Rattle.utf8.specs.Scalar.{utf8}
use Rattle.utf16.specs.Scalar.{utf16}
use Rattle.convert_point.specs.declared.Target.TheVariants.{Bytes, Units}
use Rattle.convert_point.proofs.Enough.{enough}
use Rattle.convert_from_utf8.proofs.repair_to_units.Goals.{Then-most-out}
use Rattle.convert_from_utf8.proofs.repair_to_units.Goals as goal

pub returns-then-text-gt-LIMIT : goal.returns-then-text-gt-LIMIT
returns-then-text-gt-LIMIT c = let a = c.args in repair-over a.text.now (converted utf8 utf16 a.text.now) a.out.now c.if-text-gt-LIMIT.true

-- so much is enough for any text of this length
roomy : (c : Then-most-out) → let a = c.args in length (converted utf8 utf16 a.text.now) ≤ length a.out.now
roomy c =
    omega (arith, enough Bytes Units c.args.text.now c.if-text-gt-LIMIT.false, c.most.ensures, c.if-most-out.true)

pub write_units-requires : goal.write_units-requires
write_units-requires c = roomy (goal.at.write_units-requires c).Then-most-out

pub returns-then-most-out : goal.returns-then-most-out
returns-then-most-out c =
    let a = c.args in
    repair-done a.text.now (converted utf8 utf16 a.text.now) a.out.now c.if-text-gt-LIMIT.false _ _ (roomy (goal.at.returns-then-most-out c).Then-most-out)
    c.write_units.ensures.count c.write_units.ensures.output

pub returns-then-out-units : goal.returns-then-out-units
returns-then-out-units c =
    let a = c.args in
    repair-short a.text.now (converted utf8 utf16 a.text.now) a.out.now c.if-text-gt-LIMIT.false c.need_units-units.result c.need_units-units.ensures c.if-out-units.true

pub returns : goal.returns
returns c =
    let a = c.args in
    repair-done a.text.now (converted utf8 utf16 a.text.now) a.out.now c.if-text-gt-LIMIT.false _ _ (omega (arith, c.need_units-units.ensures, c.if-out-units.false))
    c.write_units-2.ensures.count c.write_units-2.ensures.output
