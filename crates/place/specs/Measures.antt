-- The four measures of a byte text: bytes, UTF-16 units, code points and lines.
use Rattle.std.specs.Prelude.{ℕ, ◌+◌, cond, nat_lt}
use Rattle.theory.specs.Reader.{Reader, Segment}
use Rattle.theory.specs.Table.{Kind}
use Rattle.theory.specs.Tally.{size}
use Rattle.theory.specs.Place.{Ruler}
use Rattle.theory.specs.Lines.{Lined, bare, lined}
use Rattle.terms.specs.Form.{point_of}
use Rattle.utf8.specs.Bytes.{bytes}
use Rattle.utf8.specs.Scalar.{utf8}
use Rattle.place.specs.Lines.{line_rule}
use Rattle.place.specs.declared.Place.{Place}

-- what is told of a segment: whether it is whole, and whether a line ends behind it
abbrev pub Tag : Type 0
Tag = Lined Kind

-- the reader by which places are counted: the segments of the bytes, with their lines
abbrev pub reader : Reader Tag
reader = lined bytes line_rule

-- the most bytes of its segments
abbrev pub longest : ℕ
longest = 4

-- a code point is two units exactly if it is U+10000 or more; damage is one unit, as U+FFFD is
abbrev pub units_of : Segment Tag → ℕ
units_of s = cond (nat_lt (point_of utf8 (bare s)) 0x10000) 1 2

-- a line ends behind the segment, or none
abbrev pub lines_of : Segment Tag → ℕ
lines_of s = cond s.tag.ends 1 0

abbrev pub place : ℕ → ℕ → ℕ → ℕ → Place
place b u c l = record { bytes = b; units = u; points = c; lines = l }

-- nothing lies before the start; each segment is one code point
abbrev pub ruler : Ruler Tag Place
ruler = record {
  zeroth = place 0 0 0 0;
  step = λ p s. place (p.bytes + size s) (p.units + units_of s) (p.points + 1) (p.lines + lines_of s);
  bytes = λ p. p.bytes;
}
