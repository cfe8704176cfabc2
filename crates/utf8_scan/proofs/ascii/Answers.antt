-- `ascii` meets its contract: blocks of each size go on behind the first one.
use mathlib.Core.Path.{◌≡◌}
use mathlib.Core.Bool.{true}
use native.Mathlib.Omega.{arith}
use Rattle.utf8_scan.specs.Inside.Blocks.{Ascii}
use Rattle.utf8_scan.proofs.StandMore.{ascii_none, ascii-block}
use Rattle.utf8_scan.proofs.ascii.Goals.{After-is_low}
use Rattle.utf8_scan.proofs.ascii.Goals as goal

-- the first block
first : (c : After-is_low) → c.is_low.result ≡ true → Ascii c.args.text.now 64
first c e = ascii-block c.args.text.now 0 0 64 64 64 (ascii_none c.args.text.now) (omega arith) (omega arith) (omega arith) (omega arith) (c.is_low.ensures e)

pub ascii_blocks-requires-then-n-lt256 : goal.ascii_blocks-requires-then-n-lt256
ascii_blocks-requires-then-n-lt256 c =
    (omega arith, omega arith, first (goal.at.ascii_blocks-requires-then-n-lt256 c).After-is_low c.if-not-is_low.false)

pub ascii_blocks-far-requires : goal.ascii_blocks-far-requires
ascii_blocks-far-requires c =
    (omega arith, omega arith, first (goal.at.ascii_blocks-far-requires c).After-is_low c.if-not-is_low.false)
