-- THE MARKED EXAMPLES HOLD, by computation.
use mathlib.Core.Path.{refl}
use Rattle.theory.specs.Reader.{cut_from, cut, parts_from, parts}
use Rattle.utf8.specs.Bytes.{rows, bytes}
use Rattle.place.specs.Lines.{ends_line, waits_behind}
use Rattle.utf16.specs.Units.{units}
use Rattle.utf16.specs.Units as utf16
use Rattle.demand_examples.specs.Marked.{Marked}

pub marked : Marked
unfolding cut_from cut parts_from parts rows bytes utf16.rows units ends_line waits_behind
marked = record {
  empty-checks = refl;
  empty-checkpoint = refl;
  euro = refl;
  train = refl;
  train-units = refl;
  last-point = refl;
  last-units = refl;
  past-the-last = refl;
  four-too-long = refl;
  half = refl;
  three-too-long = refl;
  two-too-long = refl;
  stopped = refl;
  stopped-points = refl;
  ended = refl;
  repairs = refl;
  repairs-points = refl;
  repairs-damages = refl;
  unpaired = refl;
  unpaired-damages = refl;
  swapped = refl;
  swapped-damages = refl;
  mixed-damages = refl;
  mixed-places = refl;
  unit-inside = refl;
  byte_inside = refl;
  byte_past = refl;
  line-past = refl;
  sent-places = refl;
  sent-left = refl;
}
