-- `checked` meets its contract: refusal 2, then what the check of the needle says.
use borrow.Author.Tests.{lt-ltb, le-ltb}
use Rattle.find.proofs.checked.Goals as goal

pub returns-then-entry-gt-LIMIT : goal.returns-then-entry-gt-LIMIT
returns-then-entry-gt-LIMIT c = rw (lt-ltb _ _ c.if-entry-gt-LIMIT.true)

pub returns : goal.returns
returns c = rw (le-ltb _ _ c.if-entry-gt-LIMIT.false) c.check.ensures
