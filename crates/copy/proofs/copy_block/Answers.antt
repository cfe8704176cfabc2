-- The bytes passed stand at the start.
use mathlib.Core.Path.{◌≡◌}
use lib.ListN.{get_or}
use lib.Seq.{get_or-take}
use native.Mathlib.Omega.{arith}
use Rattle.copy.proofs.Copied.{copied-start, copied_next}
use Rattle.copy.proofs.copy_block.Goals as goal

pub loop-k-init : goal.loop-k-init
loop-k-init c = (omega arith, copied-start _ _)

pub loop-k-preserved : goal.loop-k-preserved
loop-k-preserved c =
    let a = c.args in
    let k = c.loop-k.k in
    let e : get_or c.block_of-block.result k 0 ≡ get_or a.text.now k 0 = rw c.block_of-block.ensures (get_or-take 16 a.text.now k 0 (omega arith)) in
    (omega arith, rw e (copied_next a.text.now a.out.now c.loop-k.out k c.loop-k.invariant.1 (omega arith) (omega arith)))

pub shape_of-out : goal.shape_of-out
shape_of-out c = c.loop-k.invariant.1.long

pub returns : goal.returns
returns c =
    let e : c.loop-k.k ≡ 16 = omega arith in
    rw e at c.loop-k.invariant.1.same
