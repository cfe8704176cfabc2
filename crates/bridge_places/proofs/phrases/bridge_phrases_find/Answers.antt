-- What the search told is told.
use mathlib.Core.Path.{◌∙◌}
use Rattle.bridge_numbers.proofs.WrapperTells.{as_said}
use Rattle.bridge_numbers.proofs.AllSaid.{said_match}
use Rattle.bridge_places.proofs.phrases.bridge_phrases_find.Goals as goal

pub returns : goal.returns
returns c =
    as_said (said_match c.find.result c.say_match.ensures ∙ c.find.ensures) c.tell.ensures
