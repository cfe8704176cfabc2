-- The decoder of units: what it reads and writes, and what a state stands for.
use Rattle.std.specs.Prelude.{[], ◌∷◌, ◌++◌, length, take}
use Rattle.terms.specs.Form.{point_of}
use Rattle.utf8.specs.Scalar.{utf8}
use Rattle.utf16.specs.Units.{units}
use Rattle.utf16.specs.Scalar.{utf16}
use Rattle.decoder_shared.specs.Decoding.{Decoding}
use Rattle.decoder_from_utf16.specs.Tests.{sound}
use Rattle.decoder_from_utf16.specs.declared.UnitDecoder.{UnitDecoder}

-- THE DECODER OF UNITS writes each segment's code point, U+FFFD for damage, as UTF-8
abbrev pub unit_decoding : Decoding UnitDecoder
unit_decoding = record {
  look = units;
  write = λ s. utf8.write (point_of utf16 s);
  stands = λ d. record {
    left = take d.pending d.held;
    taken = d.taken;
    whole = d.whole;
    damaged = d.damaged;
    count = d.count;
    room = d.room;
  };
  state = λ s. record {
    held = take 1 (s.left ++ 0 ∷ []);
    pending = length s.left;
    taken = s.taken;
    whole = s.whole;
    damaged = s.damaged;
    count = s.count;
    room = s.room;
  };
  sound = sound;
}
