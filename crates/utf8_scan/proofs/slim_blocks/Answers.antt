-- `slim_blocks` meets its contract: each block goes on where the text stood well so far.
use Prim.Native.Nat.{ℕ, ◌+◌, ◌-◌, ◌≤◌}
use native.Mathlib.Omega.{arith}
use Rattle.utf8_scan.specs.Inside.Blocks.{Good}
use Rattle.utf8_scan.proofs.StandMore.{good_block}
use Rattle.utf8_scan.proofs.slim_blocks.Goals.{After-right_to-n}
use Rattle.utf8_scan.proofs.slim_blocks.Goals as goal

-- as far as the block goes
further : (c : After-right_to-n) (n : ℕ) → n ≤ c.right_to-n.result → n ≤ c.args.size
    → Good c.args.text.now (c.loop-at.at + n)
further c n h l =
    let at = c.loop-at.at in
    good_block c.args.text.now at (at - 3) (at + c.args.size - (at - 3)) n (at + n) c.loop-at.invariant.1 (omega arith) (omega arith) (omega arith) (omega arith)
    (λ k i. c.right_to-n.ensures.1 k (omega arith))

pub returns-then-n-size : goal.returns-then-n-size
returns-then-n-size c = further (goal.at.returns-then-n-size c).After-right_to-n c.right_to-n.result (omega arith) (omega arith)

pub loop-at-preserved : goal.loop-at-preserved
loop-at-preserved c = (omega arith, further (goal.at.loop-at-preserved c).After-right_to-n c.args.size (omega arith) (omega arith))
