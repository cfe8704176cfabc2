-- Each arm is what its tests lead to.
use borrow.Author.Tests.{lt-ltb, le-ltb}
use Rattle.convert_utf16_blocks.proofs.size_of.Goals as goal

pub returns-then-x-lt128 : goal.returns-then-x-lt128
returns-then-x-lt128 c = rw (lt-ltb c.args.x 0x80 c.if-x-lt128.true)

pub returns-then-x-lt2048 : goal.returns-then-x-lt2048
returns-then-x-lt2048 c = rw (le-ltb c.args.x 0x80 c.if-x-lt128.false, lt-ltb c.args.x 0x800 c.if-x-lt2048.true)

pub returns : goal.returns
returns c = rw (le-ltb c.args.x 0x80 c.if-x-lt128.false, le-ltb c.args.x 0x800 c.if-x-lt2048.false)
