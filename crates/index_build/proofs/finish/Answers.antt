-- `finish` meets its contract: the checks, and then the end.
use mathlib.Core.Path.{sym, ap, ◌∙◌}
use Rattle.terms.specs.Told.{told_checked}
use Rattle.index_build.specs.Inside.Steps.{Granted}
use Rattle.index_build.proofs.GrantedOrRefused.{done-granted, finish-done, finish-refused}
use Rattle.index_build.proofs.finish.Goals.{In_default}
use Rattle.index_build.proofs.finish.Goals as goal

-- the checks have granted it
granted : (c : In_default) → let a = c.args in Granted a.state 0 a.row.now
granted c =
    let a = c.args in
    done-granted a.state 0 a.row.now (sym (ap told_checked c.in_default.is) ∙ c.check.ensures)

pub end-requires : goal.end-requires
end-requires c = granted (goal.at.end-requires c).In_default

pub returns-in-Err : goal.returns-in-Err
returns-in-Err c =
    let a = c.args in
    finish-refused a.state a.row.now c.in-Err.why (sym (ap told_checked c.in-Err.is) ∙ c.check.ensures)

pub returns : goal.returns
returns c =
    let a = c.args in
    finish-done a.state a.row.now (granted (goal.at.returns c).In_default) c.end.new.row c.fresh.result c.end.ensures c.fresh.ensures
