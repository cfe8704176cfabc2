-- `audits::audited` meets its contract: the build leaves an index that the audit says yes to, or its refusal was right.
use mathlib.Core.Path.{◌∙◌}
use Rattle.demand_index.proofs.CourseOfFeeds.{built-finished, built-refused}
use Rattle.demand_index.proofs.AuditSaysYes.{finished-audit}
use Rattle.demand_index.proofs.audits.audited.Goals as goal

pub returns-then-not-build_in_pieces : goal.returns-then-not-build_in_pieces
returns-then-not-build_in_pieces c =
    let a = c.args in
    let d = c.build_in_pieces.ensures in
    (c.may_refuse.ensures ∙ built-refused a.text.now a.cuts.now a.row.now d c.if-not-build_in_pieces.true, d.row_is)

pub returns : goal.returns
returns c =
    let a = c.args in
    let d = c.build_in_pieces.ensures in
    (c.audit.ensures ∙ finished-audit (built-finished a.text.now a.cuts.now a.row.now d c.if-not-build_in_pieces.false), d.row_is)
