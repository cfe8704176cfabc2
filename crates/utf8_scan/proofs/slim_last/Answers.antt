-- `slim_last` meets its contract: the block reaches back to what stood well.
use Prim.Native.Nat.{◌-◌}
use mathlib.Core.Path.{subst}
use native.Mathlib.Omega.{arith}
use lib.ListN.{length}
use Rattle.utf8_scan.specs.Inside.Blocks.{Stand}
use Rattle.utf8_scan.proofs.StandMore.{good_block}
use Rattle.utf8_scan.proofs.slim_last.Goals as goal

pub returns-then-right_to-size : goal.returns-then-right_to-size
returns-then-right_to-size c =
    let text = c.args.text.now in
    let a = length text - c.args.size - 3 in
    good_block text c.args.at a (length text - a) c.args.size (length text) c.requires.2 (omega arith) (omega arith) (omega arith) (omega arith)
    (subst (Stand _) c.if-right_to-size.true c.right_to.ensures.1)
