-- `line_ends` meets its contract: the line ends of the blocks passed, and what is behind them.
use mathlib.Core.Path.{◌≡◌, refl, ap, ◌∙◌}
use Prim.Native.Nat.{ℕ, ◌+◌, ◌-◌, ◌≤◌}
use lib.ListN.{length, take, drop, length-drop}
use native.Mathlib.Omega.{arith}
use Rattle.terms.proofs.WalkBySegments.{part_is}
use Rattle.utf8_count.specs.Counts.{ends_in}
use Rattle.utf8_count.proofs.LineEndsAdd.{ends-few, ends_add, ends-split}
use Rattle.utf8_count.proofs.LineEndsInRow.{ends-take}
use Rattle.utf8_count.proofs.lines.line_ends.Goals.{After-block_ends-ends, After-few}
use Rattle.utf8_count.proofs.lines.line_ends.Goals as goal

pub loop-at-init : goal.loop-at-init
loop-at-init c = (omega arith, omega arith, refl)

-- a block more
within : (c : After-block_ends-ends)
    → (c.loop-at.at + 128 ≤ c.args.n) × (c.loop-at.at + 128 ≤ length c.args.text.now)
within c =
    let text = c.args.text.now in
    let l : 130 ≤ length (drop c.loop-at.at text) = rw (part_is text c.loop-at.at) at c.in-Some.ensures.cases.enough in
    (omega (arith, c.loop-at-test.true), omega (arith, l, length-drop c.loop-at.at text))

counted : (c : After-block_ends-ends)
    → c.loop-at.ends + c.block_ends-ends.result ≡ ends_in (c.loop-at.at + 128) c.args.text.now
counted c =
    let text = c.args.text.now in
    let at = c.loop-at.at in
    let part = take (length text - at) (drop at text) in
    let q : c.block_ends-ends.result ≡ ends_in 128 (drop at text) =
    c.block_ends-ends.ensures ∙ ap (ends_in 128) c.in-Some.ensures.cases.same ∙ ends-take 128 part ∙ ap (ends_in 128) (part_is text at) in
    rw (ends_add at 128 text, c.loop-at.invariant.2, q)

passed : (c : After-block_ends-ends)
    → let text = c.args.text.now in
    let at = c.loop-at.at + 128 in
    (at ≤ c.args.n) × (at ≤ length text) × (c.loop-at.ends + c.block_ends-ends.result ≡ ends_in at text)
passed c = ((within c).0, (within c).1, counted c)

pub overflow_add-ends : goal.overflow_add-ends
overflow_add-ends c =
    omega (arith, passed c, ends-few (c.loop-at.at + 128) c.args.text.now, c.ranges.n)

pub overflow_add-at : goal.overflow_add-at
overflow_add-at c = omega (arith, passed c, c.ranges.n)

pub loop-at-smaller : goal.loop-at-smaller
loop-at-smaller c = omega (arith, passed c)

pub loop-at-preserved : goal.loop-at-preserved
loop-at-preserved c = passed c

pub returns-then-at-n : goal.returns-then-at-n
returns-then-at-n c =
    c.loop-at.invariant.2 ∙ ap (λ (k : ℕ). ends_in k c.args.text.now) c.if-at-n.true

-- all of them
ended : (c : After-few)
    → c.loop-at.ends + c.few.result ≡ ends_in c.args.n c.args.text.now
ended c =
    rw (c.loop-at.invariant.2, c.few.ensures, part_is c.args.text.now c.loop-at.at)
    (ends-split c.args.n c.loop-at.at c.args.text.now c.loop-at.invariant.0)

pub overflow_add-result : goal.overflow_add-result
overflow_add-result c =
    omega (arith, ended c, ends-few c.args.n c.args.text.now, c.ranges.n)

pub returns : goal.returns
returns c = ended c
