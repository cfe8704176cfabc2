-- What the lookup told is told.
use mathlib.Core.Path.{◌∙◌}
use Rattle.bridge_numbers.proofs.WrapperTells.{as_said}
use Rattle.bridge_numbers.proofs.AllSaid.{said_placed}
use Rattle.bridge_places.proofs.lookup.bridge_index_at_byte.Goals as goal

pub returns : goal.returns
returns c =
    as_said (said_placed c.at_byte.result c.say_placed.ensures ∙ c.at_byte.ensures) c.tell.ensures
