-- `bring` meets its contract: its two tests.
use borrow.Author.Tests.{lt-ltb, le-ltb}
use Rattle.demand_shared.proofs.bring.Goals as goal

pub returns-then-cut-from : goal.returns-then-cut-from
returns-then-cut-from c = let a = c.args in rw (lt-ltb a.cut a.from c.if-cut-from.true)

pub returns-then-end-cut : goal.returns-then-end-cut
returns-then-end-cut c =
    let a = c.args in
    rw (le-ltb a.cut a.from c.if-cut-from.false, lt-ltb a.end a.cut c.if-end-cut.true)

pub returns : goal.returns
returns c =
    let a = c.args in
    rw (le-ltb a.cut a.from c.if-cut-from.false, le-ltb a.end a.cut c.if-end-cut.false)
