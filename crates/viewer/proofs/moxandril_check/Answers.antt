-- The number of what the check told.
use mathlib.Core.Path.{sym, ap, ◌∙◌}
use Rattle.terms.specs.Told.{told_checked}
use Rattle.viewer.specs.Replies.{check_number}
use Rattle.viewer.proofs.RepliesTold.{small}
use Rattle.viewer.proofs.moxandril_check.Goals as goal

pub refused-requires : goal.refused-requires
refused-requires c =
    small c.args.text.now c.in-Err.r (ap told_checked (sym c.in-Err.is) ∙ c.check.ensures)

pub returns-in-Ok : goal.returns-in-Ok
returns-in-Ok c = ap check_number (ap told_checked (sym c.in-Ok.is) ∙ c.check.ensures)

pub returns-in-Err : goal.returns-in-Err
returns-in-Err c =
    c.refused.ensures ∙ ap check_number (ap told_checked (sym c.in-Err.is) ∙ c.check.ensures)
