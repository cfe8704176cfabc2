-- `differ` meets its contract: a byte and itself differ in no bit.
use lib.Bits.{xor_self}
use Rattle.find.proofs.ahead.differ.Goals as goal

pub returns : goal.returns
returns c = λ e f. rw (e, f, xor_self c.args.a, xor_self c.args.b)
