-- The number of what repair told, and its output.
use mathlib.Core.Path.{sym, ap, ◌∙◌}
use Rattle.terms.specs.Told.{told_written}
use Rattle.viewer.specs.Replies.{repair_number}
use Rattle.viewer.proofs.moxandril_repair.Goals as goal

pub returns-in-Ok : goal.returns-in-Ok
returns-in-Ok c =
    record { reply = ap repair_number (ap told_written (sym c.in-Ok.is) ∙ c.repair.ensures.answer); output = c.repair.ensures.output }

pub returns-in-Err : goal.returns-in-Err
returns-in-Err c =
    record { reply = c.unwritten.ensures ∙ ap repair_number (ap told_written (sym c.in-Err.is) ∙ c.repair.ensures.answer); output = c.repair.ensures.output }
