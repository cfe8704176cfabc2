-- The bytes passed stand at the start.
use mathlib.Core.Path.{◌≡◌}
use native.Mathlib.Omega.{arith}
use Rattle.copy.proofs.Copied.{copied-start, copied_next}
use Rattle.copy.proofs.copy_few.Goals as goal

pub loop-at-init : goal.loop-at-init
loop-at-init c = (omega arith, copied-start _ _)

pub loop-at-preserved : goal.loop-at-preserved
loop-at-preserved c =
    let a = c.args in
    (omega arith, copied_next a.text.now a.out.now c.loop-at.out c.loop-at.at c.loop-at.invariant.1 (omega arith) (omega arith))

pub returns : goal.returns
returns c =
    let e : c.loop-at.at ≡ c.args.n = omega arith in
    rw e at c.loop-at.invariant.1.same
