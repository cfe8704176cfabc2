-- None, or the run.
use borrow.Author.Tests.{lt-ltb, le-ltb}
use mathlib.Core.Path.{refl}
use Rattle.utf8_check.specs.Pace.{paced_run}
use Rattle.utf8_check.proofs.pace.paced_run.Goals as goal

pub returns-then-pace-gt0 : goal.returns-then-pace-gt0
unfolding paced_run
returns-then-pace-gt0 c = rw (lt-ltb 0 c.args.pace.left c.if-pace-gt0.true) refl

pub returns : goal.returns
unfolding paced_run
returns c = rw (le-ltb 0 c.args.pace.left c.if-pace-gt0.false) c.whole_run.ensures
