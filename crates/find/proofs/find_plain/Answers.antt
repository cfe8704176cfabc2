-- `find_plain` meets its contract: the checks come first.
use Rattle.std.proofs.lemmas.Result.{err_from_is_err_and}
use Rattle.find.proofs.CheckedFirst.{find-refused, find-granted}
use Rattle.find.proofs.find_plain.Goals as goal

pub returns-in_err-checked : goal.returns-in_err-checked
returns-in_err-checked c =
    let p = err_from_is_err_and c.from_residual.result c.from_residual.ensures.1 in
    rw (p.1, p.2) (find-refused c.args.entry.now c.args.needle.now c.in_err-checked.field-0.0 c.in_err-checked.ensures)

pub returns : goal.returns
returns c = find-granted _ _ c.in_ok-checked.ensures c.search.ensures
