-- `halve` meets its contract: between low and high halving still chooses the same.
use mathlib.Core.Path.{◌≡◌, sym, ◌∙◌}
use Prim.Native.Nat.{◌-◌, ◌<◌}
use native.Mathlib.Nat.{sub-zero}
use native.Mathlib.Omega.{arith}
use Rattle.theory.proofs.TrueIndexAnswers.{halve-stop}
use Rattle.index_checkpoint.specs.Checkpoints.{checkpoint}
use Rattle.index_checkpoint.specs.Choosing.{passes}
use Rattle.index_checkpoint.proofs.MiddleReached.{middle, halve-up, halve-down}
use borrow.Author.Rules.{rules}
use Rattle.index_checkpoint.proofs.halve.Goals.{After-passes}
use Rattle.index_checkpoint.proofs.halve.Goals as goal

pub loop-high-init : goal.loop-high-init
loop-high-init c = (omega arith, omega arith, rw (sub-zero c.args.n))

pub overflow_sub-high : goal.overflow_sub-high
overflow_sub-high c = let i = c.loop-high.invariant in search rules

pub overflow_sub-mid : goal.overflow_sub-mid
overflow_sub-mid c = let i = c.loop-high.invariant in search rules

pub overflow_add-mid : goal.overflow_add-mid
overflow_add-mid c = let i = c.loop-high.invariant in search rules

-- the test of the middle one
tested : (c : After-passes)
    → let a = c.args in c.passes.result ≡ passes a.to (checkpoint a.row.now (middle c.loop-high.low c.loop-high.high))
tested c = c.passes.ensures ∙ rw c.checkpoint.ensures

pub loop-high-smaller-then-passes : goal.loop-high-smaller-then-passes
loop-high-smaller-then-passes c = omega (arith, c.loop-high-test.true)

pub loop-high-preserved-then-passes : goal.loop-high-preserved-then-passes
loop-high-preserved-then-passes c =
    let a = c.args in
    let v = c.loop-high.invariant in
    let w : 1 < c.loop-high.high - c.loop-high.low = omega (arith, c.loop-high-test.true) in
    let r = halve-up (λ k. passes a.to (checkpoint a.row.now k)) c.loop-high.low c.loop-high.high w (sym (tested (goal.at.loop-high-preserved-then-passes c).After-passes) ∙ c.if-passes.true) in
    (v.0, omega arith, v.2 ∙ r)

pub loop-high-smaller : goal.loop-high-smaller
loop-high-smaller c = omega (arith, c.loop-high-test.true)

pub loop-high-preserved : goal.loop-high-preserved
loop-high-preserved c =
    let a = c.args in
    let v = c.loop-high.invariant in
    let w : 1 < c.loop-high.high - c.loop-high.low = omega (arith, c.loop-high-test.true) in
    let r = halve-down (λ k. passes a.to (checkpoint a.row.now k)) c.loop-high.low c.loop-high.high w (sym (tested (goal.at.loop-high-preserved c).After-passes) ∙ c.if-passes.false) in
    (omega (arith, v.0), omega arith, v.2 ∙ r)

pub returns : goal.returns
returns c =
    let a = c.args in
    let low = c.loop-high.low in
    let high = c.loop-high.high in
    sym (c.loop-high.invariant.2 ∙ halve-stop (λ k. passes a.to (checkpoint a.row.now k)) (high - low) low high (omega (arith, c.loop-high-test.false)))
