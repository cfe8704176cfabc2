-- `settled::is_return` meets its contract: only a text of one byte may be a lone 0D.
use mathlib.Core.Path.{sym, ◌∙◌}
use borrow.Author.Tests.{ne_eqb}
use Rattle.index_build.proofs.LoneReturn.{waits-long, waits-head}
use Rattle.index_build.proofs.settled.is_return.Goals as goal

pub returns-then-text-eq1 : goal.returns-then-text-eq1
returns-then-text-eq1 c = sym (waits-head c.args.text.now c.if-text-eq1.true)

pub returns-else-text-eq1 : goal.returns-else-text-eq1
returns-else-text-eq1 c = ne_eqb _ 1 c.if-text-eq1.false ∙ sym (waits-long c.args.text.now c.if-text-eq1.false)
