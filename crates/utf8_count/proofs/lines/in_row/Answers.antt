-- `in_row` meets its contract: behind the two there is nothing.
use mathlib.Core.Path.{◌≡◌}
use Prim.Native.Nat.{◌+◌, ◌-◌}
use lib.ListN.{take, drop}
use native.Mathlib.Omega.{arith}
use Rattle.terms.proofs.WalkBySegments.{part_is}
use Rattle.utf8_count.specs.Counts.{ends_in}
use Rattle.utf8_count.proofs.LineEndsInRow.{row_ends}
use Rattle.utf8_count.proofs.lines.in_row.Goals.{After-slow}
use Rattle.utf8_count.proofs.lines.in_row.Goals as goal

both : (c : After-slow)
    → c.block_ends.result ≡ ends_in c.args.n c.args.row.now + c.slow.result
both c =
    let row = c.args.row.now in
    let n = c.args.n in
    let p : take (130 - n) (drop n row) ≡ drop n row = rw c.told-row at (part_is row n) in
    rw (c.block_ends.ensures, c.slow.ensures, p) (row_ends n row c.requires.0 c.requires.1)

pub overflow_sub-result : goal.overflow_sub-result
overflow_sub-result c = omega (arith, both c)

pub returns : goal.returns
returns c = omega (arith, both c)
