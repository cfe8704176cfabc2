-- What finish answers: pending bytes are one damage that the end of the text stops, for which U+FFFD is written.
use mathlib.Core.Path.{◌≡◌, refl, sym, ap, ◌∙◌}
use Prim.Native.Nat.{ℕ, ◌≤◌, ◌<◌}
use mathlib.Core.Bool.{true}
use mathlib.Core.List.{List, [], ◌∷◌, ◌++◌}
use lib.ListN.{length, take, drop}
use native.Mathlib.Omega.{arith}
use Rattle.theory.specs.Reader.{Segment}
use Rattle.theory.specs.Table.{ended, Kind, is_damage}
use Rattle.theory.specs.Tally.{Log}
use Rattle.terms.specs.Form.{replacement, mend}
use Rattle.terms.specs.Limits.{fresh_of, most_pending}
use Rattle.terms.specs.declared.Decoder.{Decoder}
use Rattle.terms.specs.declared.Refusal.TheVariants.{NoRoom}
use Rattle.utf8.specs.Scalar.{utf8}
use Rattle.utf8.proofs.RowsOfBytes.{bytes_division, bytes-hold, held-ended}
use Rattle.decoder_shared.specs.Inside.Steps.{counted, struck}
use Rattle.decoder_shared.proofs.ChecksInOrder.{Admits, admits}
use Rattle.decoder_shared.proofs.FinishAnswers as any
use Rattle.decoder.specs.Checks.{admit_says}
use Rattle.decoder.specs.State.{left, byte_decoding}
use Rattle.decoder.specs.Feeding.{Finishes}
use Rattle.decoder.specs.Inside.Acting.{Work, work, log_of, reached, Fits, mended}
use Rattle.decoder.specs.Inside.Steps.{beginning}
use Rattle.std.specs.Prelude.{Ok, Err}
use Rattle.decoder.proofs.TestsAsFacts.{Sound, sound_is}
use Rattle.decoder.proofs.SeamSettled.{left-long}

abbrev mark : List ℕ
mark = utf8.write replacement

marks : (s : Segment Kind) → is_damage s.tag ≡ true → mend utf8 s ≡ mark
marks s e = rw e

module _ (d : Decoder) (out list : List ℕ) (three : length d.held ≡ most_pending) (g : admit_says d 0 (length list) ≡ 0 ∷ []) where
  granted : Admits byte_decoding d 0 (length list)
  granted = admits byte_decoding d 0 (length list) (sym g)

  passes : Sound d
  passes = sound_is d granted.tests

  long : length (left d) ≡ d.pending
  long = left-long d three passes

  pub finish-none : d.pending ≡ 0 → (q : Decoder) → q ≡ fresh_of d.room
      → Finishes d out list out list (record { answer = Ok (record { written = 0; whole = d.whole; damaged = d.damaged; count = d.count }); state = q })
  finish-none z = any.finish-none byte_decoding d out list g (ap (λ (n : ℕ). take n d.held) z)

  module _ (some : d.pending ≡ 0 → ⊥) where
    left-some : length (left d) ≡ 0 → ⊥
    left-some z = some (sym long ∙ z)

    pub finish-short : length out < length mark → Finishes d out list out list (record { answer = Err (NoRoom (length mark)); state = d })
    finish-short = any.finish-short byte_decoding d out list g bytes_division most_pending bytes-hold held-ended mark marks passes.tail.begins left-some

    abbrev begins : Work
    begins = work (beginning d) out list

    pub last-ready : length mark ≤ length out → Fits d.room (length mark) d.pending begins
    last-ready h =
        let b = passes.numbers in
        record { enough = omega (arith, h); row = granted.list; sums = omega (arith, b.sum, b.within); counts = b.low }

    -- the damage is entered and counted
    pub finish-done : length mark ≤ length out → (w : Work) → w ≡ reached out (mended d.room d.pending ended (log_of begins))
        → (q : Decoder) → q ≡ fresh_of d.room
        → Finishes d out list w.out w.list
        (record { answer = Ok (record { written = w.written; whole = w.tally.whole; damaged = w.tally.damaged; count = w.tally.count }); state = q })
    finish-done h w e q f =
        let m : Log = struck d.room d.pending ended (counted d.whole d.damaged d.count list) in
        let same = ap (λ (n : ℕ). struck d.room n ended (counted d.whole d.damaged d.count list)) (sym long) in
        rw e
        (any.finish-done byte_decoding d out list g bytes_division most_pending bytes-hold held-ended mark marks passes.tail.begins left-some h
        (mark ++ drop (length mark) out) refl m same q f)
