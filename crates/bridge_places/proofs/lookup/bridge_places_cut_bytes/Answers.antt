-- The length of the part handed back.
use mathlib.Core.Path.{ap}
use lib.ListN.{length}
use Rattle.bridge_places.proofs.lookup.bridge_places_cut_bytes.Goals as goal

pub returns : goal.returns
returns c = ap length c.cut_bytes.ensures
