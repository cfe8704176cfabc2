-- By the run, and how many there were the last time.
use borrow.Author.Tests.{le-leb, lt-leb}
use mathlib.Core.Path.{refl}
use Rattle.utf8_check.proofs.pace.wait_behind.Goals as goal

pub returns-then-run-ge16 : goal.returns-then-run-ge16
returns-then-run-ge16 c = rw (le-leb 16 c.args.run c.if-run-ge16.true) refl

pub returns-then-wait-ge1024 : goal.returns-then-wait-ge1024
returns-then-wait-ge1024 c =
    let a = c.args in
    rw (lt-leb 16 a.run c.if-run-ge16.false, le-leb 1024 a.wait c.if-wait-ge1024.true) refl

pub returns : goal.returns
returns c =
    let a = c.args in
    rw (lt-leb 16 a.run c.if-run-ge16.false, lt-leb 1024 a.wait c.if-wait-ge1024.false) refl
