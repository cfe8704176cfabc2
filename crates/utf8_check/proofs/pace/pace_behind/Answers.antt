-- By what is left, and how many are read behind the run.
use borrow.Author.Tests.{lt-ltb, le-ltb, eq-eqb, ne_eqb}
use mathlib.Core.Path.{refl}
use Rattle.utf8_check.proofs.pace.pace_behind.Goals as goal

pub returns-then-pace-gt0 : goal.returns-then-pace-gt0
returns-then-pace-gt0 c = rw (lt-ltb 0 c.args.pace.left c.if-pace-gt0.true) refl

pub returns-then-wait-eq0 : goal.returns-then-wait-eq0
returns-then-wait-eq0 c =
    let a = c.args in
    rw (le-ltb 0 a.pace.left c.if-pace-gt0.false, ← c.wait_behind-wait.ensures, eq-eqb c.wait_behind-wait.result 0 c.if-wait-eq0.true) refl

pub returns : goal.returns
returns c =
    let a = c.args in
    rw (le-ltb 0 a.pace.left c.if-pace-gt0.false, ← c.wait_behind-wait.ensures, ne_eqb c.wait_behind-wait.result 0 c.if-wait-eq0.false) refl
