-- What a feed answers, once it may take its piece.
use mathlib.Core.Path.{◌≡◌, refl, sym, subst, ◌∙◌}
use Prim.Native.Nat.{ℕ, ◌+◌, ◌*◌, ◌≤◌, ◌<◌}
use native.Mathlib.Nat.{zero-add}
use mathlib.Core.List.{List, [], ◌∷◌, ◌++◌}
use lib.ListN.{length}
use borrow.Author.Tests.{lt-ltb, le-ltb}
use native.Mathlib.Omega.{arith}
use Rattle.theory.specs.Reader.{Segment, parts}
use Rattle.theory.specs.Stream.{State}
use Rattle.theory.specs.Table.{Kind}
use Rattle.theory.specs.Tally.{total, size, Log}
use Rattle.theory.proofs.Divisions.{total_append, parts-size}
use Rattle.terms.specs.Limits.{limit}
use Rattle.terms.specs.Writing.{roomed}
use Rattle.terms.specs.declared.Decoder.{Decoder}
use Rattle.terms.specs.declared.First.{First}
use Rattle.terms.specs.declared.Refusal.TheVariants.{NoRoom}
use Rattle.std.specs.Prelude.{Ok, Err}
use Rattle.utf8.specs.Bytes.{bytes}
use Rattle.utf8_pending.specs.Tail.{first_settled, settled_size}
use Rattle.decoder_shared.specs.Inside.Steps.{told_of}
use Rattle.decoder_shared.proofs.FeedAnswers as any
use Rattle.decoder.specs.State.{byte_decoding, opened, fed}
use Rattle.decoder.specs.Inside.Acting.{need, places, Stands, Work, work, reached, Fits, Ready, acted}
use Rattle.decoder.specs.Inside.Steps.{tally_of, beginning, keeping, Rests, behind, Answers}
use Rattle.decoder.proofs.SettledPlaces.{need_append, need-small}
use Rattle.decoder.proofs.SettledByReader.{Told, told, stands}
use Rattle.decoder.proofs.SegmentsAct.{logs-long, acted-append, ready-front, ready-behind}

-- ---- only the output may be too short

module _ (d : Decoder) (taken : ℕ) (s : State Log) (out list : List ℕ) where
  pub answers-short : (n : ℕ) → n ≡ length s.kept.out → length out < n
      → Answers d taken s out list out list (record { answer = Err (NoRoom n); state = d })
  answers-short n e h =
      let l : length out < length s.kept.out = rw e at h in
      let says : roomed (length out) s.kept.out ≡ 3 ∷ n ∷ [] = rw (lt-ltb (length out) (length s.kept.out) l, e) in
      record { answer = rw says; state = rw says; output = rw says; entries = rw says }

  pub answers-done : (w : Work) (q : Decoder) → w ≡ reached out s.kept → length s.kept.out ≤ length out
      → q ≡ keeping s.left w.tally taken d.room
      → Answers d taken s out list w.out w.list (record { answer = Ok w.written; state = q })
  answers-done w q e h held =
      let says : roomed (length out) s.kept.out ≡ 0 ∷ length s.kept.out ∷ [] = rw (le-ltb (length out) (length s.kept.out) h) in
      record {
        answer = rw (says, e);
        state = rw says (held ∙ rw e);
        output = rw (says, e);
        entries = rw (says, e);
      }

-- where nothing is settled yet, the seam is kept
pub answers-still : (d : Decoder) (taken : ℕ) (piece out list seam : List ℕ) (q : Decoder)
    → fed d piece list ≡ record { left = seam; kept = (opened d list).kept } → q ≡ keeping seam (tally_of d) taken d.room
    → Answers d taken (fed d piece list) out list out list (record { answer = Ok 0; state = q })
answers-still d taken piece out list seam q e held =
    subst (λ (s : State Log). Answers d taken s out list out list (record { answer = Ok 0; state = q })) (sym e)
    (any.answers-still byte_decoding d taken seam out list q held)

-- ---- the settled segment of a seam, and then a text

module _ (d : Decoder) (seg : First) (seam rest list : List ℕ) (p : Rests d seg seam rest list) where
  abbrev all : List (Segment Kind)
  all = first_settled bytes seam ++ (parts bytes rest).done

  seen : Told seg seam
  seen = told seg seam p.tells

  pub rests-small : length rest ≤ limit
  rests-small = omega (arith, p.sums)

  all-need : need all ≡ places seg + need (parts bytes rest).done
  all-need = need_append (first_settled bytes seam) (parts bytes rest).done ∙ rw (← seen.places_is)

  all-size : d.whole + d.damaged + total size all ≤ limit
  all-size = omega (arith, p.sums, total_append size (first_settled bytes seam) (parts bytes rest).done, parts-size bytes rest)

  -- how many places they need
  needs : (n : ℕ) → n ≡ places seg + need (parts bytes rest).done → n ≡ length (behind d seam rest list).kept.out
  needs n e = e ∙ sym (logs-long d.room (opened d list).kept all ∙ zero-add (need all) ∙ all-need)

  pub needs-few : places seg + need (parts bytes rest).done ≤ 3 * limit
  needs-few = omega (arith, all-need, need-small all, all-size)

  module _ (taken : ℕ) (out : List ℕ) where
    pub behind-short : (n : ℕ) → n ≡ places seg + need (parts bytes rest).done → length out < n
        → Answers d taken (behind d seam rest list) out list out list (record { answer = Err (NoRoom n); state = d })
    behind-short n e = answers-short d taken (behind d seam rest list) out list n (needs n e)

    module _ (h : places seg + need (parts bytes rest).done ≤ length out) where
      abbrev begins : Work
      begins = work (beginning d) out list

      ready : Ready d.room all begins
      ready = record { enough = omega (arith, h, all-need); row = p.row; sums = all-size; counts = p.counts }

      pub seam-ready : Stands seg seam × Fits d.room (places seg) (settled_size seg) begins
      seam-ready =
          (stands seg seam p.tells, rw (seen.size_is, seen.places_is) (ready-front d.room (first_settled bytes seam) (parts bytes rest).done begins ready))

      -- the segment at the seam has acted
      module _ (v : Work) (e : v ≡ acted d.room (told_of seg seam) begins) where
        seam-acted : v ≡ acted d.room (first_settled bytes seam) begins
        seam-acted = e ∙ rw seen.settled_is

        pub rest-ready : Ready d.room (parts bytes rest).done v
        rest-ready = rw seam-acted (ready-behind d.room (first_settled bytes seam) (parts bytes rest).done begins ready)

        -- and so have those of the text
        pub behind-done : (w : Work) → w ≡ acted d.room (parts bytes rest).done v
            → (q : Decoder) → q ≡ keeping (parts bytes rest).left w.tally taken d.room
            → Answers d taken (behind d seam rest list) out list w.out w.list (record { answer = Ok w.written; state = q })
        behind-done w f q held =
            let g : w ≡ acted d.room all begins = f ∙ rw seam-acted (acted-append d.room (first_settled bytes seam) (parts bytes rest).done begins) in
            answers-done d taken (behind d seam rest list) out list w q g (omega (arith, h, needs _ refl)) held
