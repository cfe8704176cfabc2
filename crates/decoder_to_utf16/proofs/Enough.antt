-- The room that is enough for a feed and for finish.
use mathlib.Core.Path.{◌≡◌}
use Prim.Native.Nat.{ℕ, suc, ◌+◌, ◌≤◌}
use mathlib.Core.Bool.{true}
use mathlib.Core.List.{List, [], ◌∷◌}
use lib.ListN.{length, take, length-take}
use native.Mathlib.Omega.{arith}
use Rattle.theory.specs.Reader.{Segment, first, parts}
use Rattle.theory.specs.Table.{Kind, is_damage}
use Rattle.theory.specs.Tally.{written, total, size}
use Rattle.theory.proofs.Cases.{split}
use Rattle.terms.specs.Limits.{limit, most_pending}
use Rattle.terms.specs.declared.Decoder.{Decoder}
use Rattle.utf8.specs.Bytes.{bytes}
use Rattle.utf8.specs.Scalar.{number, utf8}
use Rattle.utf8.proofs.RowsOfBytes.{bytes_division, bytes-hold}
use Rattle.utf16.specs.Scalar.{pair, utf16}
use Rattle.utf16.proofs.FaithfulForm.{is_one}
use Rattle.convert_point.specs.declared.Target.TheVariants.{Bytes, Units}
use Rattle.convert_point.proofs.Enough.{at_most_two, text_few}
use Rattle.decoder.specs.Tests.{sound}
use Rattle.decoder.proofs.TestsAsFacts.{sound_is}
use Rattle.decoder_shared.specs.Decoding.{fed, ended}
use Rattle.decoder_shared.specs.Room.{most_fed}
use Rattle.decoder_shared.proofs.Enough.{Few}
use Rattle.decoder_shared.proofs.Enough as shared
use Rattle.decoder_shared.proofs.SettledIsCut.{settled-cut, point_causeless}
use Rattle.decoder_to_utf16.specs.State.{to_units}
use Rattle.decoder_to_utf16.proofs.SeamDivides.{bytes_cut}

-- one segment, over the n bytes at its start that were pending: two units only where it has four bytes
number-few : (x : ℕ) (xs : List ℕ) (n : ℕ) → n ≤ length (x ∷ xs) → n ≤ most_pending → length (pair (number (x ∷ xs))) + n ≤ suc (length (x ∷ xs))
number-few a [] n l h = rw (is_one (number (a ∷ [])) (omega arith)) (omega arith)
number-few a (b ∷ []) n l h = rw (is_one (number (a ∷ b ∷ [])) (omega arith)) (omega arith)
number-few a (b ∷ c ∷ []) n l h = rw (is_one (number (a ∷ b ∷ c ∷ [])) (omega arith)) (omega arith)
number-few a (b ∷ c ∷ d ∷ xs) n l h = omega (arith, at_most_two (number (a ∷ b ∷ c ∷ d ∷ [])))

one-few : (s : Segment Kind) (n : ℕ) → n ≤ size s → n ≤ most_pending → length (to_units.write s) + n ≤ 1 + size s
one-few s n l h = split (is_damage s.tag) (λ e. rw e (omega arith)) (λ e. rw e (omega (arith, number-few s.head s.tail n l h)))

-- no more units than bytes
parts_small : (text : List ℕ) → length (written to_units.write (parts bytes text).done) ≤ length text
parts_small text =
    let n : ℕ = total size (parts bytes text).done in
    rw (← settled-cut bytes_division bytes_cut to_units.write (point_causeless utf8 utf16) text) (omega (arith, text_few Bytes Units (take n text), length-take n text))

units-few : Few to_units utf16
units-few = record {
  hold = most_pending;
  division = bytes_division;
  holds = bytes-hold;
  some = omega arith;
  one = λ x xs. one-few (first bytes x xs);
  small = λ text. omega (arith, parts_small text);
}

module _ (d : Decoder) (tests : sound d ≡ true) (list : List ℕ) where
  -- THE ROOM IS ENOUGH for a feed
  pub enough : (piece : List ℕ) → length piece ≤ limit → length (fed to_units d piece list).kept.out ≤ most_fed utf16 (length piece)
  enough = shared.enough to_units utf16 units-few d (sound_is d tests).tail.begins list

  -- and for finish
  pub enough-ended : length (ended to_units d list).out ≤ most_fed utf16 0
  enough-ended = shared.enough-ended to_units utf16 units-few d (sound_is d tests).tail.begins list
