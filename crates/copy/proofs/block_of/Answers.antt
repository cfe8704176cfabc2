-- The block is filled as far as the loop has come.
use mathlib.Core.Path.{◌≡◌, ◌∙◌}
use mathlib.Core.List.{append-nil}
use lib.ListN.{take}
use native.Mathlib.Omega.{arith}
use Rattle.copy.proofs.Copied.{copied-start, copied_next}
use Rattle.copy.proofs.block_of.Goals as goal

pub loop-k-init : goal.loop-k-init
loop-k-init c = (omega arith, copied-start _ _)

pub loop-k-preserved : goal.loop-k-preserved
loop-k-preserved c =
    (omega arith, copied_next c.args.text.now _ c.loop-k.block c.loop-k.k c.loop-k.invariant.1 (omega arith) (omega arith))

pub returns : goal.returns
returns c =
    let e : c.loop-k.k ≡ 16 = omega arith in
    (rw e at c.loop-k.invariant.1.same) ∙ append-nil (take 16 c.args.text.now)
