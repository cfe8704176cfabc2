-- Refusal 2, then 3, then the form is written; where there is room for any text of this length, refusal 3 is not due.
use Prim.Native.Nat.{◌≤◌}
use lib.ListN.{length}
use native.Mathlib.Omega.{arith}
use Rattle.terms.specs.Form.{repaired, converted}
use Rattle.terms.proofs.AnswersWritten.{repair-over, repair-short, repair-done, repair-roomed}
use Rattle.terms.proofs.ConvertsBack.{repaired-converted}
use Rattle.utf8.specs.Scalar.{utf8}
use Rattle.utf8.proofs.FaithfulForm.{utf8-faithful}
use Rattle.convert_point.specs.declared.Target.TheVariants.{Bytes}
use Rattle.convert_point.proofs.Enough.{enough}
use Rattle.utf8_repair.proofs.RunsCopied.{whole_same}
use Rattle.utf8_repair.proofs.repair.Goals.{Then-most-out}
use Rattle.utf8_repair.proofs.repair.Goals as goal

pub returns-then-text-gt-LIMIT : goal.returns-then-text-gt-LIMIT
returns-then-text-gt-LIMIT c = let a = c.args in repair-over a.text.now (repaired utf8 a.text.now) a.out.now c.if-text-gt-LIMIT.true

-- so much is enough for any text of this length
roomy : (c : Then-most-out) → let a = c.args in length (converted utf8 utf8 a.text.now) ≤ length a.out.now
roomy c =
    omega (arith, enough Bytes Bytes c.args.text.now c.if-text-gt-LIMIT.false, c.most.ensures, c.if-most-out.true)

pub write_bytes-requires : goal.write_bytes-requires
write_bytes-requires c = (c.whole_run-run.ensures, roomy (goal.at.write_bytes-requires c).Then-most-out)

pub returns-then-most-out : goal.returns-then-most-out
returns-then-most-out c =
    let a = c.args in
    repair-done a.text.now (repaired utf8 a.text.now) a.out.now c.if-text-gt-LIMIT.false _ _ (rw (repaired-converted utf8-faithful.reads a.text.now) (roomy (goal.at.returns-then-most-out c).Then-most-out))
    (rw (repaired-converted utf8-faithful.reads a.text.now) c.write_bytes.ensures.count) (rw (repaired-converted utf8-faithful.reads a.text.now) c.write_bytes.ensures.output)

pub returns-then-run-text : goal.returns-then-run-text
returns-then-run-text c =
    let a = c.args in
    rw (whole_same a.text.now c.whole_run-run.result c.whole_run-run.ensures c.if-run-text.true)
    (repair-roomed a.text.now a.text.now a.out.now c.repair_whole.new.out c.repair_whole.result c.if-text-gt-LIMIT.false c.repair_whole.ensures)

pub need_bytes-bytes-requires : goal.need_bytes-bytes-requires
need_bytes-bytes-requires c = (c.if-text-gt-LIMIT.false, c.whole_run-run.ensures)

pub returns-then-out-bytes : goal.returns-then-out-bytes
returns-then-out-bytes c =
    let a = c.args in
    repair-short a.text.now (repaired utf8 a.text.now) a.out.now c.if-text-gt-LIMIT.false c.need_bytes-bytes.result
    (rw (repaired-converted utf8-faithful.reads a.text.now) c.need_bytes-bytes.ensures) c.if-out-bytes.true

pub write_bytes-requires-2 : goal.write_bytes-requires-2
write_bytes-requires-2 c =
    (c.whole_run-run.ensures, omega (arith, c.need_bytes-bytes.ensures, c.if-out-bytes.false))

pub returns : goal.returns
returns c =
    let a = c.args in
    repair-done a.text.now (repaired utf8 a.text.now) a.out.now c.if-text-gt-LIMIT.false _ _ (rw (repaired-converted utf8-faithful.reads a.text.now) (omega (arith, c.need_bytes-bytes.ensures, c.if-out-bytes.false)))
    (rw (repaired-converted utf8-faithful.reads a.text.now) c.write_bytes-2.ensures.count) (rw (repaired-converted utf8-faithful.reads a.text.now) c.write_bytes-2.ensures.output)
