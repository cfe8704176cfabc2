-- What the decoder's steps promise each other: a piece is fed behind what is pending, and the text ends.
use Rattle.std.specs.Prelude.{◌≡◌, ℕ, ◌+◌, ◌*◌, ◌≤◌, List, ◌++◌, length}
use Rattle.theory.specs.Reader.{parts}
use Rattle.theory.specs.Stream.{State}
use Rattle.theory.specs.Tally.{total, size, Log}
use Rattle.terms.specs.Limits.{limit, entry_width}
use Rattle.terms.specs.Told.{told_first, first_says, told_written}
use Rattle.terms.specs.declared.Decoder.{Decoder}
use Rattle.terms.specs.declared.First.{First}
use Rattle.utf8.specs.Bytes.{bytes}
use Rattle.utf8_pending.specs.Tail.{first_settled}
use Rattle.decoder_shared.specs.Inside.Steps as steps
use Rattle.decoder_shared.specs.declared.tally.Tally.{Tally}
use Rattle.decoder.specs.declared.repair.Repair.{Repair}
use Rattle.decoder.specs.State.{byte_decoding}
use Rattle.decoder_shared.specs.declared.Fed.{Fed}

-- the tally that a state begins with, where nothing is written yet; and the state that keeps a tally and what is left
abbrev pub tally_of : Decoder → Tally
tally_of d = record { whole = d.whole; damaged = d.damaged; count = d.count }

abbrev pub beginning : Decoder → Repair
beginning d = record { tally = tally_of d; written = 0 }

abbrev pub keeping : List ℕ → Tally → ℕ → ℕ → Decoder
keeping rest t taken room = byte_decoding.state (record {
  left = rest;
  taken = taken;
  whole = t.whole;
  damaged = t.damaged;
  count = t.count;
  room = room;
})

-- the segment that a seam begins with, as the reader told of it, and a text behind it, which a state may take
pub record Rests (d : Decoder) (seg : First) (seam rest list : List ℕ) : Type 0 where
  pub tells : told_first seg ≡ first_says bytes seam
  pub sums : d.whole + d.damaged + total size (first_settled bytes seam) + length rest ≤ limit
  pub counts : d.count ≤ d.damaged
  pub row : entry_width * d.room ≤ length list

-- the stream behind them
abbrev pub behind : Decoder → List ℕ → List ℕ → List ℕ → State Log
behind d seam rest = steps.behind byte_decoding d (first_settled bytes seam ++ (parts bytes rest).done) (parts bytes rest).left

-- what a feed answers where only the output may be too short, and the stream is this one after it
abbrev pub Answers : Decoder → ℕ → State Log → List ℕ → List ℕ → List ℕ → List ℕ → Fed Decoder → Type 0
Answers d taken s out list out' list' r = steps.Answers byte_decoding d taken s out list out' list' (told_written r.answer) r.state
