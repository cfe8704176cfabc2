-- The most that the text can need is asked for.
use mathlib.Core.Path.{◌∙◌}
use Rattle.demand_page.proofs.due_as_bytes.Goals as goal

pub returns : goal.returns
returns c = c.due_there.ensures ∙ rw c.most-most.ensures
