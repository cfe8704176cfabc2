-- The length of the part handed back.
use mathlib.Core.Path.{ap}
use lib.ListN.{length}
use Rattle.bridge_places.proofs.phrases.bridge_phrases_find_rest.Goals as goal

pub returns : goal.returns
returns c = ap length c.find_rest.ensures
