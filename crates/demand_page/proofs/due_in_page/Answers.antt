-- The check of the text and the plain walk are asked for.
use mathlib.Core.Path.{◌∙◌}
use Rattle.demand_page.proofs.due_in_page.Goals as goal

pub returns : goal.returns
returns c =
    c.due_into.ensures ∙ rw (c.check.ensures, c.held.ensures)
