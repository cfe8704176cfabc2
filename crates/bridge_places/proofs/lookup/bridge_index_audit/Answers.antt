-- The audit's answer as a number.
use mathlib.Core.Path.{ap, ◌∙◌}
use Rattle.terms.specs.Told.{bit}
use Rattle.bridge_places.proofs.lookup.bridge_index_audit.Goals as goal

pub returns : goal.returns
returns c = c.number_of.ensures ∙ ap bit c.audit.ensures
