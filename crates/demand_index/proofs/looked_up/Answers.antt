-- `looked_up` meets its contract: the third demand where the index was built, or the refusal was right.
use mathlib.Core.Path.{◌∙◌}
use Rattle.index_build.proofs.BuiltAsPlain.{built_as_plain}
use Rattle.demand_index.proofs.CourseOfFeeds.{built-finished, built-refused}
use Rattle.demand_index.proofs.looked_up.Goals as goal

pub returns-then-not-build_in_pieces : goal.returns-then-not-build_in_pieces
returns-then-not-build_in_pieces c =
    let a = c.args in
    let d = c.build_in_pieces.ensures in
    (c.may_refuse.ensures ∙ built-refused a.text.now a.cuts.now a.row.now d c.if-not-build_in_pieces.true, d.row_is)

pub agree-requires : goal.agree-requires
agree-requires c =
    let a = c.args in
    let f = built-finished a.text.now a.cuts.now a.row.now c.build_in_pieces.ensures c.if-not-build_in_pieces.false in
    rw (← f.joined) (built_as_plain a.row.now f.pieces _ f.call f.finishes f.grants)

pub returns : goal.returns
returns c =
    (c.agree.ensures, c.build_in_pieces.ensures.row_is)
