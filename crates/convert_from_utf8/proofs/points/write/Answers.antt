-- Where the output has a place for each byte there is room without counting; else the need is counted first.
use Prim.Native.Nat.{◌≤◌}
use lib.ListN.{length}
use native.Mathlib.Omega.{arith}
use Rattle.terms.specs.Form.{converted}
use Rattle.terms.proofs.AnswersWritten.{roomed-short, roomed-done}
use Rattle.utf8.specs.Scalar.{utf8}
use Rattle.code_points.specs.Points.{code_points}
use Rattle.convert_point.specs.declared.Target.TheVariants.{Bytes, Points}
use Rattle.convert_point.proofs.Enough.{text_few}
use Rattle.convert_from_utf8.proofs.points.write.Goals.{Then-text-out}
use Rattle.convert_from_utf8.proofs.points.write.Goals as goal

-- a place for each byte is enough
roomy : (c : Then-text-out) → let a = c.args in length (converted utf8 code_points a.text.now) ≤ length a.out.now
roomy c =
    omega (arith, text_few Bytes Points c.args.text.now, c.if-text-out.true)

pub put-requires : goal.put-requires
put-requires c = record { text_value = c.requires; text_in_bounds = roomy (goal.at.put-requires c).Then-text-out }

pub returns-then-text-out : goal.returns-then-text-out
returns-then-text-out c =
    let a = c.args in
    roomed-done (converted utf8 code_points a.text.now) a.out.now c.put.result c.put.ensures.count (roomy (goal.at.returns-then-text-out c).Then-text-out) _ c.put.ensures.output

pub need-points-requires : goal.need-points-requires
need-points-requires c = c.requires

pub returns-then-out-points : goal.returns-then-out-points
returns-then-out-points c =
    let a = c.args in
    roomed-short (converted utf8 code_points a.text.now) a.out.now c.need-points.result c.need-points.ensures c.if-out-points.true

pub returns : goal.returns
returns c =
    let a = c.args in
    roomed-done (converted utf8 code_points a.text.now) a.out.now _ c.put-2.ensures.count (omega (arith, c.need-points.ensures, c.if-out-points.false)) _ c.put-2.ensures.output
