-- Start, feed and finish: what they answer, the state that they hand back, and what the lent output and list then hold.
use Rattle.std.specs.Prelude.{ℕ, List}
use Rattle.terms.specs.Told.{told_checked, told_written}
use Rattle.terms.specs.declared.Decoder.{Decoder}
use Rattle.decoder_shared.specs.Calls as calls
use Rattle.decoder.specs.State.{byte_decoding}
use Rattle.decoder_shared.specs.declared.Started.{Started}
use Rattle.decoder_shared.specs.declared.Fed.{Fed}
use Rattle.decoder_shared.specs.declared.Finished.{Finished}
pub use Rattle.decoder_shared.specs.Calls.{told_total}

-- ---- START

abbrev pub Starts : ℕ → Started Decoder → Type 0
Starts room r = calls.Starts byte_decoding room (told_checked r.answer) r.state

-- ---- FEED: what is settled is written in repaired form

abbrev pub feed_says : Decoder → List ℕ → List ℕ → List ℕ → List ℕ
feed_says = calls.feed_says byte_decoding

abbrev pub Feeds : Decoder → List ℕ → List ℕ → List ℕ → List ℕ → List ℕ → Fed Decoder → Type 0
Feeds d piece out list out' list' r = calls.Feeds byte_decoding d piece out list out' list' (told_written r.answer) r.state

-- ---- FINISH: pending bytes are one damage

abbrev pub Finishes : Decoder → List ℕ → List ℕ → List ℕ → List ℕ → Finished Decoder → Type 0
Finishes d out list out' list' r = calls.Finishes byte_decoding d out list out' list' (told_total r.answer) r.state
