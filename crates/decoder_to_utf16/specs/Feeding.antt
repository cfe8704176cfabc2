-- Feed and finish: the shared promises, of the decoder of bytes into units. Start is the byte decoder's.
use Rattle.std.specs.Prelude.{ℕ, List}
use Rattle.terms.specs.Told.{told_written}
use Rattle.terms.specs.declared.Decoder.{Decoder}
use Rattle.decoder_shared.specs.Calls.{told_total}
use Rattle.decoder_shared.specs.declared.Fed.{Fed}
use Rattle.decoder_shared.specs.declared.Finished.{Finished}
use Rattle.decoder_shared.specs.Calls as calls
use Rattle.decoder_to_utf16.specs.State.{to_units}

abbrev pub Feeds : Decoder → List ℕ → List ℕ → List ℕ → List ℕ → List ℕ → Fed Decoder → Type 0
Feeds d piece out list out' list' r = calls.Feeds to_units d piece out list out' list' (told_written r.answer) r.state

abbrev pub Finishes : Decoder → List ℕ → List ℕ → List ℕ → List ℕ → Finished Decoder → Type 0
Finishes d out list out' list' r = calls.Finishes to_units d out list out' list' (told_total r.answer) r.state
