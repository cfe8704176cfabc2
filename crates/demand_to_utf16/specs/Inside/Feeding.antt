-- What the caller has between two feeds.
use Rattle.std.specs.Prelude.{ℕ, List}
use Rattle.terms.specs.declared.Decoder.{Decoder}
use Rattle.demand_feeding.specs.Feeds.{Held}
use Rattle.demand_to_utf16.specs.declared.Gone.{Gone}

abbrev pub held : Gone → List ℕ → List ℕ → Held Decoder
held gone out list = record { state = gone.state; from = gone.from; done = gone.done; out = out; list = list }
