-- Block by block, and the last block over what stands there already.
use mathlib.Core.Path.{◌≡◌}
use Prim.Native.Nat.{◌+◌, ◌-◌}
use native.Mathlib.Omega.{arith}
use Rattle.terms.proofs.WalkWrites.{back}
use Rattle.copy.proofs.Copied.{Copied, copied-start, copied-block}
use Rattle.copy.proofs.copy_many.Goals.{After-copy_block-2}
use Rattle.copy.proofs.copy_many.Goals as goal

pub loop-at-init : goal.loop-at-init
loop-at-init c = (omega arith, copied-start _ _)

pub loop-at-preserved : goal.loop-at-preserved
loop-at-preserved c =
    let a = c.args in
    (omega arith, copied-block a.text.now a.out.now c.loop-at.out c.loop-at.at c.loop-at.invariant.1 c.loop-at.at (omega arith) (omega arith) (omega arith) (omega arith) c.copy_block.new.out c.copy_block.ensures)

-- what stands there behind the last block
whole : (c : After-copy_block-2)
    → let a = c.args in
    Copied a.text.now a.out.now (back c.loop-at.out (a.n - 16) c.copy_block-2.new.out) (a.n - 16 + 16)
whole c =
    let a = c.args in
    copied-block a.text.now a.out.now c.loop-at.out c.loop-at.at c.loop-at.invariant.1 (a.n - 16) (omega arith) (omega arith) (omega arith) (omega arith) c.copy_block-2.new.out c.copy_block-2.ensures

pub shape_of-out : goal.shape_of-out
shape_of-out c = (whole (goal.at.shape_of-out c).After-copy_block-2).long

pub returns : goal.returns
returns c =
    let n = c.args.n in
    let e : n - 16 + 16 ≡ n = omega arith in
    rw e at (whole (goal.at.returns c).After-copy_block-2).same
