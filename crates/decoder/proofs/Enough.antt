-- The room that is enough for a feed and for finish.
use mathlib.Core.Path.{◌≡◌}
use Prim.Native.Nat.{ℕ, ◌+◌, ◌≤◌}
use mathlib.Core.Bool.{true}
use mathlib.Core.List.{List}
use lib.ListN.{length}
use native.Mathlib.Omega.{arith}
use Rattle.theory.specs.Reader.{Segment, first}
use Rattle.theory.specs.Table.{Kind, is_damage}
use Rattle.theory.specs.Tally.{size}
use Rattle.theory.proofs.Cases.{split}
use Rattle.terms.specs.Form.{replacement, mend}
use Rattle.terms.specs.Limits.{limit, most_pending}
use Rattle.terms.specs.declared.Decoder.{Decoder}
use Rattle.utf8.specs.Bytes.{bytes}
use Rattle.utf8.specs.Scalar.{utf8}
use Rattle.utf8.proofs.RowsOfBytes.{bytes_division, bytes-hold}
use Rattle.decoder_shared.proofs.Enough.{Few}
use Rattle.decoder_shared.proofs.Enough as shared
use Rattle.decoder.proofs.SettledPlaces.{parts_small}
use Rattle.decoder.proofs.TestsAsFacts.{sound_is}
use Rattle.decoder.specs.State.{sound, byte_decoding, fed, ended}
use Rattle.decoder.specs.Room.{most_fed}

-- one segment, over the n bytes at its start that were pending
one-few : (s : Segment Kind) (n : ℕ) → n ≤ size s → n ≤ most_pending → length (mend utf8 s) + n ≤ length (utf8.write replacement) + size s
one-few s n l h = split (is_damage s.tag) (λ e. rw e (omega arith)) (λ e. rw e (omega arith))

bytes-few : Few byte_decoding utf8
bytes-few = record {
  hold = most_pending;
  division = bytes_division;
  holds = bytes-hold;
  some = omega arith;
  one = λ x xs. one-few (first bytes x xs);
  small = parts_small;
}

module _ (d : Decoder) (tests : sound d ≡ true) (list : List ℕ) where
  -- THE ROOM IS ENOUGH for a feed
  pub enough : (piece : List ℕ) → length piece ≤ limit → length (fed d piece list).kept.out ≤ most_fed (length piece)
  enough = shared.enough byte_decoding utf8 bytes-few d (sound_is d tests).tail.begins list

  -- and for finish
  pub enough-ended : length (ended d list).out ≤ most_fed 0
  enough-ended = shared.enough-ended byte_decoding utf8 bytes-few d (sound_is d tests).tail.begins list
