-- `run::units_from` meets its contract: its test is the definition's.
use borrow.Author.Tests.{le-leb, lt-leb}
use Rattle.index_build.proofs.run.units_from.Goals as goal

pub returns-then-head-ge240 : goal.returns-then-head-ge240
returns-then-head-ge240 c = rw (le-leb 0xF0 c.args.head c.if-head-ge240.true)

pub returns-else-head-ge240 : goal.returns-else-head-ge240
returns-else-head-ge240 c = rw (lt-leb 0xF0 c.args.head c.if-head-ge240.false)
