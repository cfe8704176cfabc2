-- A piece behind what is pending: nothing is settled yet, or the segment at their seam is, and the piece goes on behind it.
use mathlib.Core.Path.{◌≡◌, sym, ap}
use Prim.Native.Nat.{ℕ, ◌+◌, ◌-◌, ◌≤◌, ◌<◌}
use mathlib.Core.List.{List, [], ◌∷◌, foldl}
use lib.ListN.{length, drop, length-drop}
use lib.Seq.{length-take-le}
use native.Mathlib.Omega.{arith}
use Rattle.theory.specs.Reader.{Parts}
use Rattle.theory.specs.Stream.{State}
use Rattle.theory.specs.Table.{Kind}
use Rattle.theory.specs.Tally.{total, size, Log}
use Rattle.terms.specs.Limits.{limit, most_pending}
use Rattle.terms.specs.Told.{told_first, first_says}
use Rattle.terms.specs.declared.Decoder.{Decoder}
use Rattle.terms.specs.declared.First.{First}
use Rattle.utf8.specs.Bytes.{bytes}
use Rattle.utf8_pending.specs.Tail.{first_settled, seamed}
use Rattle.utf8_pending.proofs.SettledFirst.{bytes-short}
use Rattle.utf8_pending.proofs.SeamIsFirst.{read-still, read-inside, read_behind}
use Rattle.decoder_shared.proofs.ChecksInOrder.{Admits, admits}
use Rattle.decoder.specs.Checks.{admit_says}
use Rattle.decoder.proofs.TestsAsFacts.{Sound, sound_is}
use Rattle.decoder.specs.State.{left, byte_decoding, act, opened, fed}
use Rattle.decoder.specs.Inside.Steps.{Rests, behind}

-- the pending bytes of a state that passes its tests
pub left-long : (d : Decoder) → length d.held ≡ most_pending → Sound d → length (left d) ≡ d.pending
left-long d three s = length-take-le d.pending d.held (omega (arith, three, s.tail.few))

-- the stream of a state, from the parts of its text
abbrev streamed : Decoder → List ℕ → Parts Kind → State Log
streamed d list p = record { left = p.left; kept = foldl (act d.room) (opened d list).kept p.done }

module _ (d : Decoder) (piece list seam : List ℕ) (g : admit_says d (length piece) (length list) ≡ 0 ∷ []) (seam-is : seam ≡ seamed (left d) piece)
    (three : length d.held ≡ most_pending) where
  granted : Admits byte_decoding d (length piece) (length list)
  granted = admits byte_decoding d (length piece) (length list) (sym g)

  passes : Sound d
  passes = sound_is d granted.tests

  long : length (left d) ≡ d.pending
  long = left-long d three passes

  abbrev taken : ℕ
  taken = total size (first_settled bytes seam)

  pub join-within : d.taken + length piece ≤ limit
  join-within = granted.within

  -- fewer bytes are settled than are pending: nothing is, and all of it is pending still
  pub join-none : taken < d.pending → fed d piece list ≡ record { left = seam; kept = (opened d list).kept }
  join-none h = ap (streamed d list) (read-still bytes-short (left d) piece seam d.pending passes.tail.begins long seam-is h)

  -- the segment at the seam reaches over what is pending, and the piece goes on behind it
  module _ (over : d.pending ≤ taken) where
    pub join-inside : taken - d.pending ≤ length piece
    join-inside = read-inside bytes-short (left d) piece seam d.pending passes.tail.begins long seam-is over

    pub join-behind : fed d piece list ≡ behind d seam (drop (taken - d.pending) piece) list
    join-behind = ap (streamed d list) (read_behind bytes-short (left d) piece seam d.pending passes.tail.begins long seam-is over)

    pub join-rests : (seg : First) → told_first seg ≡ first_says bytes seam → Rests d seg seam (drop (taken - d.pending) piece) list
    join-rests seg e =
        let b = passes.numbers in
        record {
          tells = e;
          sums = omega (arith, b.sum, granted.within, join-inside, length-drop (taken - d.pending) piece);
          counts = b.low;
          row = granted.list;
        }
