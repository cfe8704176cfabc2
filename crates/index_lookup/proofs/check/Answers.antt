-- `check` meets its contract: each test is the definition's.
use lib.ListN.{length}
use borrow.Author.Tests.{lt-ltb, le-ltb}
use Rattle.terms.specs.Limits.{limit}
use Rattle.index_lookup.proofs.check.Goals as goal

pub returns-then-long-gt-LIMIT : goal.returns-then-long-gt-LIMIT
returns-then-long-gt-LIMIT c = rw (lt-ltb limit c.args.long c.if-long-gt-LIMIT.true)

pub returns-then-row-needed : goal.returns-then-row-needed
returns-then-row-needed c =
    rw (le-ltb limit c.args.long c.if-long-gt-LIMIT.false, ← c.needed-needed.ensures, lt-ltb (length c.args.row.now) c.needed-needed.result c.if-row-needed.true)

pub returns : goal.returns
returns c =
    rw (le-ltb limit c.args.long c.if-long-gt-LIMIT.false, ← c.needed-needed.ensures, le-ltb (length c.args.row.now) c.needed-needed.result c.if-row-needed.false)
