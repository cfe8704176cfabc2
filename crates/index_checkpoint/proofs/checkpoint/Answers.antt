-- `checkpoint` meets its contract: it reads its numbers, from the first on.
use mathlib.Core.Path.{◌∙◌}
use Rattle.index_checkpoint.proofs.ReadBack.{checkpoint_is, checkpoint_past}
use Rattle.index_checkpoint.proofs.checkpoint.Goals as goal

pub returns-then-row-k : goal.returns-then-row-k
returns-then-row-k c = let a = c.args in c.start.ensures ∙ checkpoint_past a.row.now a.k c.if-row-k.true

pub returns : goal.returns
returns c =
    let a = c.args in
    rw (c.number_at.ensures, c.number_at-2.ensures, c.number_at-3.ensures, c.number_at-4.ensures) (checkpoint_is a.row.now a.k)
