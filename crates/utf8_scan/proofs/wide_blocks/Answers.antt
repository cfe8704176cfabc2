-- `wide_blocks` meets its contract: each block goes on where the text stood well so far.
use Prim.Native.Nat.{◌+◌, ◌-◌}
use mathlib.Core.Path.{subst, ◌∙◌}
use native.Mathlib.Omega.{arith}
use lib.ListN.{length, drop}
use lib.Seq.{take-take}
use Rattle.utf8_scan.specs.Inside.Blocks.{Stand}
use Rattle.utf8_scan.proofs.StandMore.{good_block}
use Rattle.utf8_scan.proofs.wide_blocks.Goals as goal

pub loop-block-preserved : goal.loop-block-preserved
loop-block-preserved c =
    let text = c.args.text.now in
    let at = c.loop-block.at in
    let chunk = c.in-Some.ensures.cases in
    let same = chunk.same ∙ take-take 131 (length text - (at - 3)) (drop (at - 3) text) (omega (arith, chunk.enough)) in (
      omega arith,
      good_block text at (at - 3) 131 128 (at + 128) c.loop-block.invariant.1 (omega arith) (omega arith) (omega arith) (omega arith)
          (subst (λ b. Stand b 128) same (c.right.ensures c.if-not-right.false)),
    )
