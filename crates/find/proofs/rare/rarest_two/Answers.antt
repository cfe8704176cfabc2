-- `rarest_two` meets its contract: it keeps indices of the needle.
use native.Mathlib.Omega.{arith}
use Rattle.find.proofs.rare.rarest_two.Goals as goal

pub loop-k-preserved : goal.loop-k-preserved
loop-k-preserved c =
    let i = c.loop-k.invariant in
    let n = c.with_index-r.ensures _ i.2 i.3 (omega arith) in
    (omega arith, i.1, n.0, n.1)
