-- The room that is enough for a feed and for finish.
use mathlib.Core.Path.{◌≡◌}
use Prim.Native.Nat.{ℕ, zero, suc, ◌+◌, ◌*◌, ◌≤◌}
use mathlib.Core.Bool.{true}
use mathlib.Core.List.{List}
use lib.ListN.{length, take, length-take}
use native.Mathlib.Omega.{arith}
use Rattle.theory.specs.Reader.{first, parts}
use Rattle.theory.specs.Tally.{written, total, size}
use Rattle.terms.specs.Form.{point_of}
use Rattle.terms.specs.Limits.{limit}
use Rattle.utf8.specs.Scalar.{utf8}
use Rattle.utf16.specs.Units.{units}
use Rattle.utf16.specs.Scalar.{utf16}
use Rattle.utf16.proofs.RowsOfUnits.{units_division}
use Rattle.convert_point.specs.declared.Target.TheVariants.{Bytes, Units}
use Rattle.convert_point.proofs.Enough.{segment-few, text_few}
use Rattle.convert_point.proofs.FourAtMost.{at-most-four}
use Rattle.decoder_shared.specs.Decoding.{fed, ended}
use Rattle.decoder_shared.specs.Room.{most_fed}
use Rattle.decoder_shared.proofs.Enough.{Few}
use Rattle.decoder_shared.proofs.Enough as shared
use Rattle.decoder_shared.proofs.SettledIsCut.{settled-cut, point_causeless}
use Rattle.decoder_from_utf16.specs.Tests.{sound}
use Rattle.decoder_from_utf16.specs.State.{unit_decoding}
use Rattle.decoder_from_utf16.specs.declared.UnitDecoder.{UnitDecoder}
use Rattle.decoder_from_utf16.proofs.TestsAsFacts.{sound_is}
use Rattle.decoder_from_utf16.proofs.HalfPending.{left-begins}
use Rattle.decoder_from_utf16.proofs.SettledUnits.{units-hold, units-cut}

-- three bytes for a segment of one unit, of which n were pending, or four for one of two
one-few : (k n places : ℕ) → places ≤ 3 * suc k → places ≤ 4 → n ≤ suc k → n ≤ 1 → places + n ≤ 3 + suc k
one-few zero n places a b c d = omega arith
one-few (suc k) n places a b c d = omega arith

-- what is settled takes three places a unit at most
parts_small : (text : List ℕ) → length (written unit_decoding.write (parts units text).done) ≤ 3 * length text
parts_small text =
    let n : ℕ = total size (parts units text).done in
    rw (← settled-cut units_division units-cut unit_decoding.write (point_causeless utf16 utf8) text) (omega (arith, text_few Units Bytes (take n text), length-take n text))

units-few : Few unit_decoding utf8
units-few = record {
  hold = 1;
  division = units_division;
  holds = units-hold;
  some = omega arith;
  one = λ x xs n. one-few _ n _ (segment-few x xs Units Bytes) (at-most-four Bytes (point_of utf16 (first units x xs)));
  small = parts_small;
}

module _ (d : UnitDecoder) (tests : sound d ≡ true) (list : List ℕ) where
  -- THE ROOM IS ENOUGH for a feed
  pub enough : (piece : List ℕ) → length piece ≤ limit → length (fed unit_decoding d piece list).kept.out ≤ most_fed utf8 (length piece)
  enough = shared.enough unit_decoding utf8 units-few d (left-begins d (sound_is d tests)) list

  -- and for finish
  pub enough-ended : length (ended unit_decoding d list).out ≤ most_fed utf8 0
  enough-ended = shared.enough-ended unit_decoding utf8 units-few d (left-begins d (sound_is d tests)) list
