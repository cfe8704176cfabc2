-- `right` meets its contract: the largest byte says which test is enough.
use native.Mathlib.Omega.{arith}
use Rattle.utf8_scan.proofs.StandMore.{below_up, stand-ascii}
use Rattle.utf8_scan.proofs.right.Goals as goal

pub returns-in-0-to-127 : goal.returns-in-0-to-127
returns-in-0-to-127 c = λ e. stand-ascii c.args.t.now 128 (below_up c.args.t.now 131 c.top.result 0x80 c.top.ensures (omega arith))
