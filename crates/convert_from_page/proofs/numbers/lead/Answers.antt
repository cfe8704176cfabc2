-- A number below 0x80 is its own byte.
use borrow.Author.Tests.{lt-ltb, le-ltb}
use Rattle.convert_from_page.proofs.numbers.lead.Goals as goal

pub returns-then-n-lt128 : goal.returns-then-n-lt128
returns-then-n-lt128 c = rw (lt-ltb c.args.n 0x80 c.if-n-lt128.true)

pub returns-else-n-lt128 : goal.returns-else-n-lt128
returns-else-n-lt128 c = rw (le-ltb c.args.n 0x80 c.if-n-lt128.false)
