-- Refusal 2, then 3, then the form is written; where there is room for any text of this length, refusal 3 is not due.
use Prim.Native.Nat.{◌≤◌}
use lib.ListN.{length}
use native.Mathlib.Omega.{arith}
use Rattle.terms.specs.Form.{converted}
use Rattle.utf16.specs.Scalar.{utf16}
use Rattle.utf8.specs.Scalar.{utf8}
use Rattle.convert_point.specs.declared.Target.TheVariants.{Bytes, Units}
use Rattle.convert_point.proofs.Enough.{enough}
use Rattle.convert_from_utf16.proofs.repair_to_bytes.Goals.{Then-most-out}
use Rattle.convert_from_utf16.proofs.repair_to_bytes.Goals as goal

-- so much is enough for any text of this length
roomy : (c : Then-most-out) → let a = c.args in length (converted utf16 utf8 a.text.now) ≤ length a.out.now
roomy c =
    omega (arith, enough Units Bytes c.args.text.now c.if-text-gt-LIMIT.false, c.most.ensures, c.if-most-out.true)

pub write_bytes-requires : goal.write_bytes-requires
write_bytes-requires c = roomy (goal.at.write_bytes-requires c).Then-most-out
