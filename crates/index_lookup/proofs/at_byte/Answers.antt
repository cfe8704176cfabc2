-- `at_byte` meets its contract: refusals 2, 3 and 4, then lookup from the checkpoint that division chooses.
use mathlib.Core.Path.{◌∙◌}
use Rattle.std.proofs.lemmas.Result.{err_from_is_err_and}
use Rattle.index_lookup.proofs.FromCheckpoint.{indexed-refused, indexed-granted, byte_past, byte-among, byte-from}
use Rattle.index_lookup.proofs.at_byte.Goals as goal

pub returns-in_err-check : goal.returns-in_err-check
returns-in_err-check c =
    let a = c.args in
    let p = err_from_is_err_and c.from_residual.result c.from_residual.ensures.1 in
    rw (p.1, p.2) (indexed-refused a.text.now a.row.now _ c.in_err-check.field-0.0 c.in_err-check.ensures)

pub returns-then-long-offset : goal.returns-then-long-offset
returns-then-long-offset c =
    let a = c.args in
    let g = indexed-granted a.text.now a.row.now c.in_ok-check.ensures in
    byte_past a.text.now a.row.now g.0 g.1 a.offset.0 c.if-long-offset.true

pub look_from-requires : goal.look_from-requires
look_from-requires c =
    let a = c.args in
    let g = indexed-granted a.text.now a.row.now c.in_ok-check.ensures in
    byte-among a.text.now a.row.now g.0 g.1 a.offset.0 c.if-long-offset.false

pub returns : goal.returns
returns c =
    let a = c.args in
    let g = indexed-granted a.text.now a.row.now c.in_ok-check.ensures in
    c.look_from.ensures ∙ byte-from a.text.now a.row.now g.0 g.1 a.offset.0 c.if-long-offset.false
