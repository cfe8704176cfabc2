-- Where the output has a place for each byte there is room without counting; else the need is counted first. The text spells its own units.
use mathlib.Core.Path.{◌≡◌}
use Prim.Native.Nat.{◌≤◌}
use lib.ListN.{length}
use native.Mathlib.Omega.{arith}
use Rattle.terms.specs.Form.{converted}
use Rattle.terms.proofs.AnswersWritten.{roomed-short, roomed-done}
use Rattle.utf8.specs.Scalar.{utf8}
use Rattle.utf16.specs.Scalar.{utf16}
use Rattle.convert_point.specs.declared.Target.TheVariants.{Bytes, Units}
use Rattle.convert_point.proofs.Enough.{text_few}
use Rattle.convert_from_utf8.specs.Inside.Spell.{spelled}
use Rattle.convert_from_utf8.proofs.SpellsItsUnits.{spelled_undamaged}
use Rattle.convert_from_utf8.proofs.spelling.write.Goals.{Start, Then-text-out}
use Rattle.convert_from_utf8.proofs.spelling.write.Goals as goal

its_own : (c : Start) → spelled c.args.text.now ≡ converted utf8 utf16 c.args.text.now
its_own c = spelled_undamaged c.args.text.now c.requires

roomy : (c : Then-text-out) → let a = c.args in length (converted utf8 utf16 a.text.now) ≤ length a.out.now
roomy c = omega (arith, text_few Bytes Units c.args.text.now, c.if-text-out.true)

pub put-requires : goal.put-requires
put-requires c = rw (its_own (goal.at.put-requires c).Start) (roomy (goal.at.put-requires c).Then-text-out)

pub returns-then-text-out : goal.returns-then-text-out
returns-then-text-out c =
    roomed-done (converted utf8 utf16 c.args.text.now) c.args.out.now c.put.result (rw (its_own (goal.at.returns-then-text-out c).Start) at c.put.ensures.count) (roomy (goal.at.returns-then-text-out c).Then-text-out) _ (rw (its_own (goal.at.returns-then-text-out c).Start) at c.put.ensures.output)

pub need-units-requires : goal.need-units-requires
need-units-requires c = c.requires

pub returns-then-out-units : goal.returns-then-out-units
returns-then-out-units c =
    let a = c.args in
    roomed-short (converted utf8 utf16 a.text.now) a.out.now c.need-units.result c.need-units.ensures c.if-out-units.true

pub put-requires-2 : goal.put-requires-2
put-requires-2 c =
    rw (its_own (goal.at.put-requires-2 c).Start) (omega (arith, c.need-units.ensures, c.if-out-units.false))

pub returns : goal.returns
returns c =
    roomed-done (converted utf8 utf16 c.args.text.now) c.args.out.now c.put-2.result (rw (its_own (goal.at.returns c).Start) at c.put-2.ensures.count) (omega (arith, c.need-units.ensures, c.if-out-units.false)) _
    (rw (its_own (goal.at.returns c).Start) at c.put-2.ensures.output)
