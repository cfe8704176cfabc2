-- A piece that a state may take, behind what is pending: the stream then, and what the steps of a feed ask.
use mathlib.Core.Path.{◌≡◌, sym, ap}
use Prim.Native.Nat.{ℕ, ◌+◌, ◌-◌, ◌≤◌, ◌<◌}
use mathlib.Core.List.{List, [], ◌∷◌, ◌++◌}
use lib.ListN.{length, take, drop, length-drop}
use native.Mathlib.Omega.{arith}
use Rattle.theory.specs.Reader.{Parts, parts}
use Rattle.theory.specs.Stream.{State}
use Rattle.theory.specs.Table.{Kind}
use Rattle.theory.specs.Tally.{total, size, Log}
use Rattle.terms.specs.Limits.{limit, most_pending}
use Rattle.terms.specs.Told.{told_first, first_says}
use Rattle.terms.specs.declared.Decoder.{Decoder}
use Rattle.terms.specs.declared.First.{First}
use Rattle.utf8.specs.Bytes.{bytes}
use Rattle.utf8.specs.Scalar.{utf8}
use Rattle.utf16.specs.Scalar.{utf16}
use Rattle.utf8_pending.specs.Tail.{first_settled, seamed}
use Rattle.utf8_pending.proofs.SettledFirst.{bytes-short}
use Rattle.utf8_pending.proofs.SeamIsFirst.{read-still, read-inside}
use Rattle.decoder.specs.Tests.{left}
use Rattle.decoder.proofs.SeamSettled.{left-long}
use Rattle.decoder.proofs.TestsAsFacts.{Sound, sound_is}
use Rattle.decoder_shared.specs.Decoding.{fed}
use Rattle.decoder_shared.specs.Checks.{admit_says}
use Rattle.decoder_shared.specs.Inside.Steps.{told_of, Rests, behind}
use Rattle.decoder_shared.proofs.ChecksInOrder.{Admits, admits}
use Rattle.decoder_shared.proofs.SettledIsCut.{point_causeless}
use Rattle.decoder_to_utf16.specs.State.{to_units}
use Rattle.decoder_to_utf16.proofs.SeamDivides as divides

-- the stream of a state, from the parts of its text
abbrev streamed : Decoder → List ℕ → Parts Kind → State Log
streamed d list p = behind to_units d p.done p.left list

module _ (d : Decoder) (piece list seam : List ℕ) (g : admit_says to_units d (length piece) (length list) ≡ 0 ∷ []) (seam-is : seam ≡ seamed (left d) piece)
    (three : length d.held ≡ most_pending) where
  granted : Admits to_units d (length piece) (length list)
  granted = admits to_units d (length piece) (length list) (sym g)

  passes : Sound d
  passes = sound_is d granted.tests

  long : length (left d) ≡ d.pending
  long = left-long d three passes

  abbrev taken : ℕ
  taken = total size (first_settled bytes seam)

  pub join-within : d.taken + length piece ≤ limit
  join-within = granted.within

  -- nothing is settled yet: all of the seam is pending
  pub join-still : taken < d.pending → fed to_units d piece list ≡ behind to_units d [] seam list
  join-still h = ap (streamed d list) (read-still bytes-short (left d) piece seam d.pending passes.tail.begins long seam-is h)

  -- or the segment at the seam is, and the piece goes on behind it
  module _ (h : d.pending ≤ taken) where
    abbrev rest : List ℕ
    rest = drop (taken - d.pending) piece

    pub join-inside : taken - d.pending ≤ length piece
    join-inside = read-inside bytes-short (left d) piece seam d.pending passes.tail.begins long seam-is h

    pub join-behind : (seg : First) → told_first seg ≡ first_says bytes seam
        → fed to_units d piece list ≡ behind to_units d (told_of seg (take taken seam) ++ (parts bytes rest).done) (parts bytes rest).left list
    join-behind seg e = ap (streamed d list) (divides.seam-divides (left d) piece seam d.pending passes.tail.begins long seam-is h seg e)

    pub join-rests : (seg : First) → told_first seg ≡ first_says bytes seam → Rests to_units d seg (take taken seam) rest list
    join-rests seg e =
        let b = passes.numbers in
        record {
          tells = divides.seam-tells (left d) piece seam d.pending passes.tail.begins long seam-is h seg e;
          writes =
              divides.seam-writes (left d) piece seam d.pending passes.tail.begins long seam-is h seg e to_units.write (point_causeless utf8 utf16);
          size_is = divides.seam-size (left d) piece seam d.pending passes.tail.begins long seam-is h seg e;
          all_told = divides.seam-all (left d) piece seam d.pending passes.tail.begins long seam-is h seg e;
          sums = omega (
            arith,
            h,
            b.sum,
            granted.within,
            join-inside,
            length-drop (taken - d.pending) piece,
            divides.head-long (left d) piece seam d.pending passes.tail.begins long seam-is,
          );
          counts = b.low;
          row = granted.list;
        }
