-- The end of a text of units: a pending half is one damage that the end stops, for which U+FFFD is written.
use mathlib.Core.Path.{◌≡◌, sym, ◌∙◌}
use Prim.Native.Nat.{ℕ, ◌≤◌, ◌<◌}
use mathlib.Core.Bool.{true}
use mathlib.Core.List.{List, [], ◌∷◌, ◌++◌}
use lib.ListN.{length, drop}
use borrow.Author.Tests.{le-ltb}
use native.Mathlib.Omega.{arith}
use Rattle.theory.specs.Reader.{Segment}
use Rattle.theory.specs.Table.{ended, Kind, is_damage}
use Rattle.theory.specs.Tally.{Log}
use Rattle.terms.specs.Form.{replacement}
use Rattle.utf8.specs.Scalar.{utf8}
use Rattle.utf16.proofs.RowsOfUnits.{units_division, held-ended}
use Rattle.convert_point.specs.Puts.{fitting, Puts}
use Rattle.decoder_shared.specs.Decoding.{fresh}
use Rattle.decoder_shared.specs.Checks.{admit_says}
use Rattle.decoder_shared.specs.Calls.{Finishes}
use Rattle.decoder_shared.specs.Inside.Steps.{Fits, struck}
use Rattle.decoder_shared.proofs.ChecksInOrder.{Admits, admits}
use Rattle.decoder_shared.proofs.FinishAnswers.{finish-none, finish-short, finish-done}
use Rattle.decoder_from_utf16.specs.State.{unit_decoding}
use Rattle.decoder_shared.specs.Inside.Tallying.{log_of}
use Rattle.decoder_from_utf16.specs.Inside.Tallying.{opening}
use Rattle.decoder_from_utf16.specs.declared.UnitDecoder.{UnitDecoder}
use Rattle.decoder_from_utf16.proofs.TestsAsFacts.{Sound, sound_is}
use Rattle.decoder_from_utf16.proofs.HalfPending.{Half, half_is, left-begins}
use Rattle.decoder_from_utf16.proofs.SettledUnits.{units-hold}

abbrev mark : List ℕ
mark = utf8.write replacement

marks : (s : Segment Kind) → is_damage s.tag ≡ true → unit_decoding.write s ≡ mark
marks s e = rw e

module _ (d : UnitDecoder) (out list : List ℕ) (g : admit_says unit_decoding d 0 (length list) ≡ 0 ∷ []) where
  a : Admits unit_decoding d 0 (length list)
  a = admits unit_decoding d 0 (length list) (sym g)

  s : Sound d
  s = sound_is d a.tests

  pub end_none : d.pending ≡ 0 → (next : UnitDecoder) → next ≡ fresh unit_decoding d.room
      → Finishes unit_decoding d out list out list (0 ∷ 0 ∷ d.whole ∷ d.damaged ∷ d.count ∷ []) next
  end_none e = finish-none unit_decoding d out list g (rw e)

  -- a half is pending
  module _ (f : d.pending ≡ 0 → ⊥) where
    p : Half d
    p = half_is d s f

    long : length (unit_decoding.stands d).left ≡ d.pending
    long = rw (p.left_is, p.one)

    some : length (unit_decoding.stands d).left ≡ 0 → ⊥
    some e = f (sym long ∙ e)

    pub end_short : length out < 3 → Finishes unit_decoding d out list out list (3 ∷ 3 ∷ []) d
    end_short = finish-short unit_decoding d out list g units_division 1 units-hold held-ended mark marks (left-begins d s) some

    pub end_fits : Fits d.room d.pending (log_of (opening d) list)
    end_fits = record {
      row = a.list;
      sums = omega (arith, s.numbers.sum, s.numbers.within);
      counts = omega (arith, s.numbers.ones);
    }

    pub end-done : 3 ≤ length out → (out' : List ℕ) (n : ℕ) → Puts (fitting utf8 (length out) replacement) out out' n
        → (m : Log) → m ≡ struck d.room d.pending ended (log_of (opening d) list) → (next : UnitDecoder) → next ≡ fresh unit_decoding d.room
        → Finishes unit_decoding d out list out' m.list (0 ∷ 3 ∷ m.whole ∷ m.damaged ∷ m.count ∷ []) next
    end-done h out' n w m e =
        let v : fitting utf8 (length out) replacement ≡ mark = rw (le-ltb (length out) 3 h) in
        let o : out' ≡ mark ++ drop 3 out = rw v at w.output in
        let k : m ≡ struck d.room (length (unit_decoding.stands d).left) ended (log_of (opening d) list) = rw long e in
        finish-done unit_decoding d out list g units_division 1 units-hold held-ended mark marks (left-begins d s) some h out' o m k
