-- `ends_none` meets its contract: none of the bytes that begin a line end passes a test.
use borrow.Author.Tests.{ltb-true}
use native.Mathlib.Omega.{arith}
use Rattle.utf8_count.proofs.LineEndsAdd.{end_none}
use Rattle.utf8_count.proofs.lines.ends_none.Goals as goal

pub returns-then-x-lt194 : goal.returns-then-x-lt194
returns-then-x-lt194 c e y z = end_none c.args.x y z (omega arith) (omega arith) (omega arith) (omega arith)

pub returns-then-x-lt226 : goal.returns-then-x-lt226
returns-then-x-lt226 c e y z = end_none c.args.x y z (omega arith) (omega arith) (omega arith) (omega arith)

pub returns : goal.returns
returns c e y z =
    let h = ltb-true 0xE2 c.args.x e in
    end_none c.args.x y z (omega arith) (omega arith) (omega arith) (omega arith)
