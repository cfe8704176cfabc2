-- `marking::pass` meets its contract: each test is the definition's.
use Prim.Native.Nat.{◌+◌, ◌*◌, ◌/◌}
use borrow.Author.Tests.{lt-ltb, le-ltb, eq-eqb, ne_eqb}
use Rattle.index_checkpoint.specs.Checkpoints.{spacing}
use Rattle.index_checkpoint.proofs.marking.pass.Goals as goal

pub returns-then-q-k : goal.returns-then-q-k
returns-then-q-k c =
    let a = c.args in
    rw (lt-ltb (a.q.bytes / spacing) (a.p.bytes / spacing + 1) c.if-q-k.true)

pub returns-then-q-k-2 : goal.returns-then-q-k-2
returns-then-q-k-2 c =
    let a = c.args in
    rw (
      le-ltb (a.q.bytes / spacing) (a.p.bytes / spacing + 1) c.if-q-k.false,
      eq-eqb a.q.bytes (spacing * (a.p.bytes / spacing + 1)) c.if-q-k-2.true,
    )
    c.mark.ensures

pub returns : goal.returns
returns c =
    let a = c.args in
    rw (
      le-ltb (a.q.bytes / spacing) (a.p.bytes / spacing + 1) c.if-q-k.false,
      ne_eqb a.q.bytes (spacing * (a.p.bytes / spacing + 1)) c.if-q-k-2.false,
    )
    c.mark-2.ensures
