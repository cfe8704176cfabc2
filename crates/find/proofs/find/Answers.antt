-- `find` meets its contract: the checks come first, and an empty needle stands at 0.
use mathlib.Core.Path.{sym}
use native.Mathlib.Omega.{arith}
use Rattle.std.proofs.lemmas.Result.{err_from_is_err_and}
use Rattle.find.proofs.FirstMatch.{empty_match}
use Rattle.find.proofs.CheckedFirst.{find-refused, find-granted}
use Rattle.find.proofs.find.Goals as goal

pub returns-in_err-checked : goal.returns-in_err-checked
returns-in_err-checked c =
    let p = err_from_is_err_and c.from_residual.result c.from_residual.ensures.1 in
    rw (p.1, p.2) (find-refused c.args.entry.now c.args.needle.now c.in_err-checked.field-0.0 c.in_err-checked.ensures)

pub returns-then-needle-eq0 : goal.returns-then-needle-eq0
returns-then-needle-eq0 c =
    let a = c.args in
    find-granted _ _ c.in_ok-checked.ensures (sym (empty_match a.entry.now a.needle.now c.if-needle-eq0.true))

pub search-requires : goal.search-requires
search-requires c = omega (arith, c.if-needle-eq0.false)

pub returns : goal.returns
returns c = find-granted _ _ c.in_ok-checked.ensures c.search.ensures
