-- Below 0x80 it is one byte, and else two.
use mathlib.Core.Path.{sym, ap}
use lib.ListN.{length}
use Rattle.utf8.proofs.FaithfulForm.{is_one, is-two}
use Rattle.convert_from_page.proofs.numbers.long.Goals as goal

pub returns-then-n-lt128 : goal.returns-then-n-lt128
returns-then-n-lt128 c = sym (ap length (is_one c.args.n c.if-n-lt128.true))

pub returns-else-n-lt128 : goal.returns-else-n-lt128
returns-else-n-lt128 c = sym (ap length (is-two c.args.n c.if-n-lt128.false c.requires))
