-- `ascii_blocks` meets its contract: each block reaches back to bytes below 0x80.
use Prim.Native.Nat.{◌+◌, ◌-◌, ◌≤◌}
use mathlib.Core.Path.{subst}
use native.Mathlib.Omega.{arith}
use Rattle.std.proofs.Common.{inl, inr}
use lib.ListN.{length}
use Rattle.utf8_scan.specs.Inside.Blocks.{Below}
use Rattle.utf8_scan.proofs.StandMore.{ascii-block}
use Rattle.utf8_scan.proofs.ascii_blocks.Goals as goal

pub loop-block-preserved : goal.loop-block-preserved
loop-block-preserved c =
    let at = c.loop-block.at in
    let size = c.args.size in
    let part = c.in-Some.ensures.lookup.0 in
    ascii-block c.args.text.now at at (at + size - at) size (at + size) c.loop-block.invariant (omega arith) (omega arith) part.1 (omega arith)
    (subst (λ b. Below b (length b) 0x80) part.2 (c.is_low.ensures c.if-not-is_low.false))

pub returns-then-is_low : goal.returns-then-is_low
returns-then-is_low c =
    let text = c.args.text.now in
    let at = c.loop-block.at in
    let size = c.args.size in
    let behind : length text - size ≤ at = elim c.in_default.ensures.lookup.0 [ inl h ↦ omega arith | inr h ↦ omega arith ] in
    ascii-block text at (length text - size) (length text - (length text - size)) size (length text) c.loop-block.invariant behind (omega arith) (omega arith) (omega arith)
    (c.is_low-then-at-n.ensures c.if-is_low.true)
