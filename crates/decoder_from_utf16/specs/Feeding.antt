-- Start, feed and finish: the shared promises, of the decoder of units.
use Rattle.std.specs.Prelude.{ℕ, List}
use Rattle.terms.specs.Told.{told_checked, told_written}
use Rattle.decoder_shared.specs.Calls.{told_total}
use Rattle.decoder_shared.specs.Calls as calls
use Rattle.decoder_from_utf16.specs.State.{unit_decoding}
use Rattle.decoder_from_utf16.specs.declared.UnitDecoder.{UnitDecoder}
use Rattle.decoder_shared.specs.declared.Started.{Started}
use Rattle.decoder_shared.specs.declared.Fed.{Fed}
use Rattle.decoder_shared.specs.declared.Finished.{Finished}

abbrev pub Starts : ℕ → Started UnitDecoder → Type 0
Starts room r = calls.Starts unit_decoding room (told_checked r.answer) r.state

abbrev pub Feeds : UnitDecoder → List ℕ → List ℕ → List ℕ → List ℕ → List ℕ → Fed UnitDecoder → Type 0
Feeds d piece out list out' list' r = calls.Feeds unit_decoding d piece out list out' list' (told_written r.answer) r.state

abbrev pub Finishes : UnitDecoder → List ℕ → List ℕ → List ℕ → List ℕ → Finished UnitDecoder → Type 0
Finishes d out list out' list' r = calls.Finishes unit_decoding d out list out' list' (told_total r.answer) r.state
