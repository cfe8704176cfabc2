-- `slow` meets its contract: the line ends of the bytes passed, and there are none behind the end.
use mathlib.Core.Path.{◌≡◌, ap, ◌∙◌}
use Prim.Native.Nat.{ℕ, ◌+◌, min}
use lib.ListN.{length}
use native.Mathlib.Omega.{arith}
use Rattle.terms.proofs.WalkBySegments.{part_is}
use Rattle.utf8_count.specs.Counts.{ends_in}
use Rattle.utf8_count.proofs.LineEndsAdd.{ends-few, ends-one, ends-min}
use Rattle.utf8_count.proofs.lines.slow.Goals.{After-end_first-ends}
use Rattle.utf8_count.proofs.lines.slow.Goals as goal

-- a byte more
counted : (c : After-end_first-ends)
    → c.loop-at.ends + c.end_first-ends.result ≡ ends_in (c.loop-at.at + 1) c.args.text.now
counted c =
    let text = c.args.text.now in
    rw (ends-one c.loop-at.at text, c.loop-at.invariant, c.end_first-ends.ensures, part_is text c.loop-at.at)

pub overflow_add-ends : goal.overflow_add-ends
overflow_add-ends c =
    omega (arith, c.loop-at-test.true, counted (goal.at.overflow_add-ends c).After-end_first-ends, ends-few (c.loop-at.at + 1) c.args.text.now, c.ranges.n)

pub loop-at-preserved : goal.loop-at-preserved
loop-at-preserved c = counted (goal.at.loop-at-preserved c).After-end_first-ends

pub returns : goal.returns
returns c =
    let n = c.args.n in
    let text = c.args.text.now in
    let e : c.loop-at.at ≡ min n (length text) = omega (arith, c.min-at-end.ensures, c.loop-at-test.false) in
    c.loop-at.invariant ∙ ap (λ (k : ℕ). ends_in k text) e ∙ ends-min n text
