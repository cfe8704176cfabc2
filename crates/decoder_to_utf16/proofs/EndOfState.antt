-- The end of a text whose state may end it: nothing is pending, or what is pending is one damage.
use mathlib.Core.Path.{◌≡◌, sym, ◌∙◌}
use Prim.Native.Nat.{ℕ, ◌≤◌, ◌<◌}
use mathlib.Core.Bool.{true}
use mathlib.Core.List.{List, [], ◌∷◌, ◌++◌}
use lib.ListN.{length, drop}
use borrow.Author.Tests.{le-ltb}
use native.Mathlib.Omega.{arith}
use Rattle.theory.specs.Reader.{Segment}
use Rattle.theory.specs.Table.{ended, Kind, is_damage}
use Rattle.theory.specs.Tally.{Log}
use Rattle.terms.specs.Form.{replacement, point_of}
use Rattle.terms.specs.Limits.{most_pending}
use Rattle.terms.specs.Told.{told_refusal}
use Rattle.terms.specs.declared.Decoder.{Decoder}
use Rattle.terms.specs.declared.Refusal.TheVariants.{NoRoom}
use Rattle.utf8.specs.Scalar.{utf8}
use Rattle.utf8.proofs.RowsOfBytes.{bytes_division, bytes-hold, held-ended}
use Rattle.utf16.specs.Scalar.{utf16}
use Rattle.convert_point.specs.Puts.{fitting, Puts}
use Rattle.decoder.specs.Tests.{left}
use Rattle.decoder.proofs.SeamSettled.{left-long}
use Rattle.decoder.proofs.TestsAsFacts.{Sound, sound_is}
use Rattle.decoder_shared.specs.Decoding.{fresh}
use Rattle.decoder_shared.specs.Checks.{admit_says}
use Rattle.decoder_shared.specs.Calls.{Finishes}
use Rattle.decoder_shared.specs.Inside.Steps.{Fits, struck}
use Rattle.decoder_shared.proofs.ChecksInOrder.{Admits, admits}
use Rattle.decoder_shared.proofs.FinishAnswers as finish
use Rattle.decoder_to_utf16.specs.State.{to_units}
use Rattle.decoder_shared.specs.Inside.Tallying.{log_of}
use Rattle.decoder.specs.Inside.Steps.{tally_of}

-- U+FFFD, in one place
abbrev mark : List ℕ
mark = utf16.write replacement

marks : (s : Segment Kind) → is_damage s.tag ≡ true → utf16.write (point_of utf8 s) ≡ mark
marks s e = rw e

module _ (d : Decoder) (out list : List ℕ) (g : admit_says to_units d 0 (length list) ≡ 0 ∷ []) where
  pub end_none : d.pending ≡ 0 → (next : Decoder) → next ≡ fresh to_units d.room
      → Finishes to_units d out list out list (0 ∷ 0 ∷ d.whole ∷ d.damaged ∷ d.count ∷ []) next
  end_none z = finish.finish-none to_units d out list g (rw z)

  granted : Admits to_units d 0 (length list)
  granted = admits to_units d 0 (length list) (sym g)

  passes : Sound d
  passes = sound_is d granted.tests

  -- the list has room for the damage that is pending
  pub end_fits : Fits d.room d.pending (log_of (tally_of d) list)
  end_fits =
      let b = passes.numbers in
      record { row = granted.list; sums = omega (arith, b.sum, b.within); counts = b.low }

  module _ (three : length d.held ≡ most_pending) (p : d.pending ≡ 0 → ⊥) where
    long : length (left d) ≡ d.pending
    long = left-long d three passes

    some : length (left d) ≡ 0 → ⊥
    some z = p (sym long ∙ z)

    pub end_short : length out < 1 → Finishes to_units d out list out list (told_refusal (NoRoom 1)) d
    end_short = finish.finish-short to_units d out list g bytes_division most_pending bytes-hold held-ended mark marks passes.tail.begins some

    pub end-done : 1 ≤ length out → (out' : List ℕ) (n : ℕ) → Puts (fitting utf16 (length out) replacement) out out' n
        → (m : Log) → m ≡ struck d.room d.pending ended (log_of (tally_of d) list) → (next : Decoder) → next ≡ fresh to_units d.room
        → Finishes to_units d out list out' m.list (0 ∷ 1 ∷ m.whole ∷ m.damaged ∷ m.count ∷ []) next
    end-done h out' n w m e =
        let o : out' ≡ mark ++ drop 1 out = w.output ∙ rw (le-ltb (length out) 1 h) in
        let s : m ≡ struck d.room (length (left d)) ended (log_of (tally_of d) list) = rw long e in
        finish.finish-done to_units d out list g bytes_division most_pending bytes-hold held-ended mark marks passes.tail.begins some h out' o m s
