-- What the caller has between two feeds, and what a way through a text has left.
use Rattle.std.specs.Prelude.{◌≡◌, ℕ, true, List}
use Rattle.terms.specs.declared.Decoder.{Decoder}
use Rattle.demand_feeding.specs.Feeds.{Held, Given, given}
use Rattle.demand_pieces.specs.declared.feeds.Gone.{Gone}
use Rattle.demand_pieces.specs.declared.feeds.Way.{Way}

abbrev pub held : Gone → List ℕ → List ℕ → Held Decoder
held gone out list = record { state = gone.state; from = gone.from; done = gone.done; out = out; list = list }

-- it has found and left what it should, and every call was refused that must be
pub record Went (way : Way) (out list : List ℕ) (should : Given) : Type 0 where
  pub found : given way.found out list ≡ should
  pub refuses : way.refuses ≡ true
