-- The check of the text, its length and the most that it can need are asked for.
use mathlib.Core.Path.{◌∙◌}
use Rattle.demand_convert.proofs.due_points.Goals as goal

pub returns : goal.returns
returns c =
    c.due_there.ensures ∙ rw (c.check.ensures, c.most-most.ensures)
