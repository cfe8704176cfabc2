-- What is kept of settled segments: the tally that a state begins with, and the state that keeps a tally and what is left.
use Rattle.std.specs.Prelude.{ℕ, List}
use Rattle.decoder_shared.specs.declared.tally.Tally.{Tally}
use Rattle.decoder_from_utf16.specs.State.{unit_decoding}
use Rattle.decoder_from_utf16.specs.declared.UnitDecoder.{UnitDecoder}

abbrev pub opening : UnitDecoder → Tally
opening d = record { whole = d.whole; damaged = d.damaged; count = d.count }

abbrev pub keeping : List ℕ → Tally → ℕ → ℕ → UnitDecoder
keeping left t taken room =
    unit_decoding.state (record { left = left; taken = taken; whole = t.whole; damaged = t.damaged; count = t.count; room = room })
