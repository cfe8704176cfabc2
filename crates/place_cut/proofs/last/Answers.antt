-- `last` meets its contract: the refusals, then the last place.
use mathlib.Core.Path.{sym}
use Rattle.std.proofs.lemmas.Result.{err_from_is_err_and}
use Rattle.utf8.specs.Classes.{classes}
use Rattle.utf8.proofs.ClassesRead.{table, by-table}
use Rattle.place.proofs.WalkReached.{going-refused, going-granted, going_on, going-roomy}
use Rattle.place_cut.proofs.last.Goals as goal

pub returns-in_err-check : goal.returns-in_err-check
returns-in_err-check c =
    let a = c.args in
    let p = err_from_is_err_and c.from_residual.result c.from_residual.ensures.1 in
    rw (p.1, p.2) (going-refused a.from a.text.now _ c.in_err-check.field-0.0 c.in_err-check.ensures)

pub reach-requires : goal.reach-requires
unfolding classes table
reach-requires c =
    let a = c.args in
    let g = going-granted a.from a.text.now c.in_ok-check.ensures in
    record { roomy = going-roomy a.from a.text.now g.0 g.1; classes_value = by-table }

pub returns : goal.returns
returns c =
    let a = c.args in
    let g = going-granted a.from a.text.now c.in_ok-check.ensures in
    rw c.reach.ensures (sym (going_on a.from a.text.now _ g.0 g.1))
