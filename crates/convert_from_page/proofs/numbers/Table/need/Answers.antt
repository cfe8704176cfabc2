-- What is counted, and what the rest takes, is the whole.
use Prim.Native.Nat.{◌≤◌}
use lib.ListN.{length}
use native.Mathlib.Omega.{arith}
use Rattle.terms.proofs.WalkWrites.{left, counted_start, summed-on, counted-end}
use Rattle.utf8.specs.Scalar.{utf8}
use Rattle.page.specs.Paged.{paged}
use Rattle.convert_point.proofs.Enough.{three-at-most}
use Rattle.convert_from_page.proofs.PageBytes.{passed-byte}
use borrow.Author.Rules.{rules}
use Rattle.convert_from_page.proofs.numbers.Table.need.Goals.{After-bytes_of-total}
use Rattle.convert_from_page.proofs.numbers.Table.need.Goals as goal

pub loop-b-init : goal.loop-b-init
loop-b-init c = let a = c.args in (counted_start (paged a.self.now.numbers) utf8 a.text.now, omega arith)

-- at most three bytes
few : (c : After-bytes_of-total) → c.bytes_of-total.result ≤ 3
few c = rw c.bytes_of-total.ensures (three-at-most c.number.result (search rules))

pub overflow_add-total : goal.overflow_add-total
overflow_add-total c =
    omega (arith, few c, c.loop-b.invariant.1, c.loop-b-test.true, c.requires)

pub loop-b-preserved : goal.loop-b-preserved
loop-b-preserved c =
    let a = c.args in
    let text = a.text.now in
    let p = passed-byte a.self.now.numbers text c.loop-b.b-index c.loop-b-test.true (omega (arith, c.type_inv.text c.loop-b.b-index)) in (
      rw (c.bytes_of-total.ensures, c.number.ensures)
          (summed-on (left (paged a.self.now.numbers) utf8 text) (length text) c.loop-b.b-index c.loop-b.total 1 _ c.loop-b.invariant.0 p),
      omega (arith, few c, c.loop-b.invariant.1),
    )

pub returns : goal.returns
returns c =
    let a = c.args in
    counted-end (paged a.self.now.numbers) utf8 a.text.now c.loop-b.b-index c.loop-b.total c.loop-b.invariant.0 c.loop-b-test.false
