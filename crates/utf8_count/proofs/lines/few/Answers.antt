-- `few` meets its contract: a part, and what is behind it.
use mathlib.Core.Path.{◌≡◌}
use Prim.Native.Nat.{◌+◌}
use native.Mathlib.Omega.{arith}
use Rattle.terms.proofs.WalkBySegments.{part_is}
use Rattle.utf8_count.specs.Counts.{ends_in}
use Rattle.utf8_count.proofs.LineEndsAdd.{ends-few, ends-split}
use Rattle.utf8_count.proofs.lines.few.Goals.{After-slow-2}
use Rattle.utf8_count.proofs.lines.few.Goals as goal

pub returns-then-m-lt16 : goal.returns-then-m-lt16
returns-then-m-lt16 c = c.slow.ensures

pub filled-requires : goal.filled-requires
filled-requires c = omega (arith, c.min-m.ensures)

pub slice_bounds-slow-count : goal.slice_bounds-slow-count
slice_bounds-slow-count c = omega (arith, c.min-m.ensures, c.min.ensures)

pub slice_bounds-slow-start : goal.slice_bounds-slow-start
slice_bounds-slow-start c = omega (arith, c.min-m.ensures, c.min.ensures)

pub overflow_sub-n : goal.overflow_sub-n
overflow_sub-n c = omega (arith, c.min-m.ensures, c.min.ensures)

both : (c : After-slow-2)
    → c.filled.result + c.slow-2.result ≡ ends_in c.args.n c.args.text.now
both c =
    rw (c.filled.ensures, c.slow-2.ensures, part_is c.args.text.now c.min-m.result)
    (ends-split c.args.n c.min-m.result c.args.text.now (omega (arith, c.min-m.ensures, c.min.ensures)))

pub overflow_add-result : goal.overflow_add-result
overflow_add-result c =
    omega (arith, both c, ends-few c.args.n c.args.text.now, c.ranges.n)

pub returns : goal.returns
returns c = both c
