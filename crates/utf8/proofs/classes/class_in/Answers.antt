-- A byte is below 256.
use borrow.Author.Tests.{lt-ltb}
use borrow.Author.Rules.{rules}
use Rattle.utf8.proofs.classes.class_in.Goals as goal

pub returns : goal.returns
returns c = rw (lt-ltb c.args.b 256 (search rules))
