-- `wide_last` meets its contract: the block reaches back to what stood well.
use Prim.Native.Nat.{◌-◌}
use mathlib.Core.Path.{subst, sym, ◌∙◌}
use native.Mathlib.Omega.{arith}
use lib.ListN.{length, drop, length-drop}
use lib.Seq.{take_all}
use Rattle.utf8_scan.specs.Inside.Blocks.{Stand}
use Rattle.utf8_scan.proofs.StandMore.{good_block}
use Rattle.utf8_scan.proofs.wide_last.Goals as goal

pub returns-in-Some : goal.returns-in-Some
returns-in-Some c =
    let text = c.args.text.now in
    let a = length text - 131 in
    let chunk = c.in-Some.ensures.cases in
    let same = chunk.1.same ∙ sym (take_all 131 (drop a text) (omega (arith, length-drop a text))) in (
      omega arith,
      good_block text c.args.at a 131 128 (length text) c.requires.1 (omega arith) (omega arith) (omega arith) (omega arith)
          (subst (λ b. Stand b 128) same (c.right.ensures c.if-right.true)),
    )
