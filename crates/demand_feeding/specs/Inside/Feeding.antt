-- One feed of a piece, and a piece that is tried in a few places first.
use Rattle.std.specs.Prelude.{ℕ, length}
use mathlib.Core.List.{List, foldl}
use Rattle.theory.specs.Course.{uncalled, called}
use Rattle.decoder_shared.specs.Decoding.{Decoding}
use Rattle.demand_feeding.specs.Feeds.{Held, Call, feed_of, tries}

module _ {S : Type 0} (D : Decoding S) (text : List ℕ) where
  abbrev pub fed_one : Held S → Call → Held S
  fed_one h c = (called (feed_of D text) (uncalled h) c).caller

  -- the piece that ends at a cut is tried in each of these places, and in all
  abbrev pub fed_tries : Held S → ℕ → List ℕ → Held S
  fed_tries h cut few = foldl fed_one h (tries few (length h.out) cut)
