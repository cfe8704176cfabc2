-- `marking::mark` meets its contract: four numbers, one behind another.
use Prim.Native.Nat.{◌/◌}
use lib.ListN.{length, length-set}
use borrow.Author.Tests.{le-ltb, lt-ltb}
use native.Mathlib.Omega.{arith}
use Rattle.index_checkpoint.specs.Checkpoints.{width}
use Rattle.index_checkpoint.specs.Marks.{short}
use Rattle.index_checkpoint.proofs.FourWritten.{four-written}
use Rattle.index_checkpoint.proofs.marking.mark.Goals as goal

pub returns-then-row-k : goal.returns-then-row-k
returns-then-row-k c = let a = c.args in rw (le-ltb a.k (length a.row.now / width) c.if-row-k.true)

pub bounds-row-at-2 : goal.bounds-row-at-2
bounds-row-at-2 c = simp length-set (omega arith)

pub bounds-row-at-3 : goal.bounds-row-at-3
bounds-row-at-3 c = simp length-set (omega arith)

pub bounds-row-at-4 : goal.bounds-row-at-4
bounds-row-at-4 c = simp length-set (omega arith)

pub returns : goal.returns
returns c =
    let a = c.args in
    rw (
      c.entry-4.ensures,
      c.entry-3.ensures,
      c.entry-2.ensures,
      c.entry.ensures,
      lt-ltb a.k (length a.row.now / width) c.if-row-k.false,
    )
    (four-written a.row.now a.k (short a.p))
