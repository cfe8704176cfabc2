-- Where the output has three places for each byte there is room without counting; else the need is counted first.
use Prim.Native.Nat.{◌≤◌}
use lib.ListN.{length}
use native.Mathlib.Omega.{arith}
use Rattle.terms.specs.Form.{converted}
use Rattle.terms.proofs.AnswersWritten.{roomed-short, roomed-done}
use Rattle.utf8.specs.Scalar.{utf8}
use Rattle.page.specs.Paged.{paged}
use Rattle.convert_from_page.proofs.PageBytes.{three-each}
use Rattle.convert_from_page.proofs.fit.Goals.{Then-text-out}
use Rattle.convert_from_page.proofs.fit.Goals as goal

-- three places for each byte are enough
roomy : (c : Then-text-out) → let a = c.args in length (converted (paged a.table.now.numbers) utf8 a.text.now) ≤ length a.out.now
roomy c =
    omega (arith, three-each c.args.table.now.numbers c.args.table.now.are_units c.args.text.now, c.if-text-out.true)

pub put-requires : goal.put-requires
put-requires c = record { text_in_bounds = roomy (goal.at.put-requires c).Then-text-out }

pub returns-then-text-out : goal.returns-then-text-out
returns-then-text-out c =
    let a = c.args in
    roomed-done (converted (paged a.table.now.numbers) utf8 a.text.now) a.out.now c.put.result c.put.ensures.count (roomy (goal.at.returns-then-text-out c).Then-text-out) _ c.put.ensures.output

pub returns-then-out-bytes : goal.returns-then-out-bytes
returns-then-out-bytes c =
    let a = c.args in
    roomed-short (converted (paged a.table.now.numbers) utf8 a.text.now) a.out.now c.need-bytes.result c.need-bytes.ensures (omega (arith, c.if-out-bytes.true))

pub returns : goal.returns
returns c =
    let a = c.args in
    roomed-done (converted (paged a.table.now.numbers) utf8 a.text.now) a.out.now _ c.put-2.ensures.count (omega (arith, c.need-bytes.ensures, c.if-out-bytes.false)) _ c.put-2.ensures.output
