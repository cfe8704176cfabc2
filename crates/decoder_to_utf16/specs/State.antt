-- The decoder of bytes into units: what it reads and writes; its state is the byte decoder's.
use Rattle.terms.specs.Form.{point_of}
use Rattle.terms.specs.declared.Decoder.{Decoder}
use Rattle.utf8.specs.Bytes.{bytes}
use Rattle.utf8.specs.Scalar.{utf8}
use Rattle.utf16.specs.Scalar.{utf16}
use Rattle.decoder.specs.State.{byte_decoding}
use Rattle.decoder_shared.specs.Decoding.{Decoding}

-- THE DECODER INTO UNITS writes each segment's code point, U+FFFD for damage, as UTF-16
abbrev pub to_units : Decoding Decoder
to_units = record {
  look = bytes;
  write = λ s. utf16.write (point_of utf8 s);
  stands = byte_decoding.stands;
  state = byte_decoding.state;
  sound = byte_decoding.sound;
}
