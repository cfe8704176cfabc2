-- The decoder's state: its tests, and what it stands for while a text comes in pieces.
use Rattle.std.specs.Prelude.{ℕ, List, length}
use Rattle.theory.specs.Reader.{Segment}
use Rattle.theory.specs.Stream.{State}
use Rattle.theory.specs.Tally.{Log}
use Rattle.theory.specs.Table.{Kind}
use Rattle.terms.specs.Form.{mend}
use Rattle.terms.specs.declared.Decoder.{Decoder}
use Rattle.utf8.specs.Bytes.{bytes}
use Rattle.utf8.specs.Pending.{padded}
use Rattle.utf8.specs.Scalar.{utf8}
use Rattle.decoder_shared.specs.Decoding.{Decoding}
use Rattle.decoder_shared.specs.Decoding as decoding
pub use Rattle.decoder.specs.Tests.{left, sound}

-- THE DECODER OF BYTES: it reads bytes and writes them in repaired form; a state holds those that are pending, and 0 behind them
abbrev pub byte_decoding : Decoding Decoder
byte_decoding = record {
  look = bytes;
  write = mend utf8;
  stands = λ d. record { left = left d; taken = d.taken; whole = d.whole; damaged = d.damaged; count = d.count; room = d.room };
  state = λ s. record {
    held = padded s.left;
    pending = length s.left;
    taken = s.taken;
    whole = s.whole;
    damaged = s.damaged;
    count = s.count;
    room = s.room;
  };
  sound = sound;
}

-- what one segment does to the totals, the output and the list
abbrev pub act : ℕ → Log → Segment Kind → Log
act = decoding.act (mend utf8)

-- the state as a stream's, the stream after a piece, what is kept at the end, and the state that is handed back
abbrev pub opened : Decoder → List ℕ → State Log
opened = decoding.opened byte_decoding

abbrev pub fed : Decoder → List ℕ → List ℕ → State Log
fed = decoding.fed byte_decoding

abbrev pub ended : Decoder → List ℕ → Log
ended = decoding.ended byte_decoding

abbrev pub closed : Decoder → ℕ → State Log → Decoder
closed = decoding.closed byte_decoding
