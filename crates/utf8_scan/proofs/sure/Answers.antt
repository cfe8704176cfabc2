-- `sure` meets its contract: bytes below 0x80 stand well, and the blocks go on behind them.
use native.Mathlib.Omega.{arith}
use Rattle.utf8_scan.proofs.StandMore.{good_none, good_ascii}
use Rattle.utf8_scan.proofs.sure.Goals as goal

pub returns-then-n-lt19 : goal.returns-then-n-lt19
returns-then-n-lt19 c = good_none _

pub returns-then-at-n : goal.returns-then-at-n
returns-then-at-n c = good_ascii _ _ c.ascii-at.ensures

pub by_length-requires : goal.by_length-requires
by_length-requires c = (c.if-at-ge3.true, good_ascii _ _ c.ascii-at.ensures, c.if-n-lt19.false)

pub returns-then-not-right_first : goal.returns-then-not-right_first
returns-then-not-right_first c = good_none _

pub by_length-requires-2 : goal.by_length-requires-2
by_length-requires-2 c = (omega arith, c.right_first.ensures c.if-not-right_first.false, c.if-n-lt19.false)
