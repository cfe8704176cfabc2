-- `feed` meets its contract: the checks, and then the piece is taken.
use mathlib.Core.Path.{sym, ap, ◌∙◌}
use lib.ListN.{length}
use Rattle.terms.specs.Told.{told_checked}
use Rattle.index_build.specs.Inside.Steps.{Granted}
use Rattle.index_build.proofs.GrantedOrRefused.{done-granted, feed-done, feed-refused}
use Rattle.index_build.proofs.feed.Goals.{In_default}
use Rattle.index_build.proofs.feed.Goals as goal

-- the checks have granted it
granted : (c : In_default)
    → let a = c.args in Granted a.state (length a.piece.now) a.row.now
granted c =
    let a = c.args in
    done-granted a.state (length a.piece.now) a.row.now (sym (ap told_checked c.in_default.is) ∙ c.check.ensures)

pub take-requires : goal.take-requires
take-requires c = granted (goal.at.take-requires c).In_default

pub returns-in-Err : goal.returns-in-Err
returns-in-Err c =
    let a = c.args in
    feed-refused a.state a.piece.now a.row.now c.in-Err.why (sym (ap told_checked c.in-Err.is) ∙ c.check.ensures)

pub returns : goal.returns
returns c =
    let a = c.args in
    feed-done a.state a.piece.now a.row.now (granted (goal.at.returns c).In_default) c.take.new.row c.take.result c.take.ensures
