-- Exactly where a way through a text within the limit is granted: where there is room for a start, for the entries in the list, and
-- for the form in the output; so a refusal is never without a cause.
use mathlib.Core.Path.{◌≡◌, sym, ap, ◌∙◌}
use Prim.Native.Nat.{ℕ, ◌*◌, ◌-◌, ◌≤◌}
use mathlib.Core.Bool.{true, ◌&&◌, true≢false}
use mathlib.Core.List.{List, [], ◌∷◌, ◌++◌}
use lib.ListN.{length, take, drop, length-append, length-drop, take-append-drop}
use lib.Seq.{take_all, length-take-le}
use lib.Dec.{leb}
use borrow.Author.Tests.{le-leb, leb-true, le-ltb}
use native.Mathlib.Omega.{arith}
use Rattle.theory.specs.Reader.{cut, parts}
use Rattle.theory.specs.Table.{is_damage}
use Rattle.theory.specs.Tally.{written, Log}
use Rattle.theory.proofs.Cases.{split, both}
use Rattle.theory.proofs.Divisions.{written-append, cut_parts, cut-append}
use Rattle.theory.proofs.TalliesAdd.{log_is}
use Rattle.terms.specs.Limits.{limit, most_room, entry_width}
use Rattle.terms.specs.Told.{is_granted}
use Rattle.terms.proofs.WalkBySegments.{part_is}
use Rattle.decoder_shared.specs.Decoding.{Decoding, numbers, opened, fed, ended}
use Rattle.decoder_shared.specs.Calls.{feed_says}
use Rattle.decoder_shared.specs.Course.{Holds}
use Rattle.decoder_shared.proofs.ChecksInOrder.{Admits, admitted-then}
use Rattle.decoder_shared.proofs.Lawful.{Lawful}
use Rattle.decoder_shared.proofs.AnyCutting.{FinishGrants}
use Rattle.demand_shared.specs.Cuts.{bring}
use Rattle.demand_feeding.specs.Feeds.{Held, Call, call, end_of, piece_of, rest_of, says_of, feed_of, Given, ran, through}
use Rattle.demand_feeding.specs.Pieces.{form_of}
use Rattle.demand_feeding.specs.Comparing.{enough}
use Rattle.demand_feeding.proofs.CallsOnTheWay.{one-granted}
use Rattle.demand_feeding.proofs.CuttingDoesNotMatter.{caller_of, Keeps, behind, behind-one, keeps, keeps-holds, list-long, ended_so, through-ran}

bring-all : (from n : ℕ) → from ≤ n → bring n from n ≡ n
bring-all from n h = let e : n ≤ n = omega arith in rw (le-ltb n from h, le-ltb n n e)

-- ---- what the feed and the finish of a state write

module _ {S : Type 0} (D : Decoding S) (d : S) (list : List ℕ) where
  abbrev left : List ℕ
  left = (D.stands d).left

  pub fed-form : (piece : List ℕ) → (fed D d piece list).kept.out ≡ written D.write (parts D.look (left ++ piece)).done
  fed-form piece =
      ap (λ (m : Log). m.out) (log_is is_damage D.write numbers entry_width (D.stands d).room (opened D d list).kept (parts D.look (left ++ piece)).done)

  ended-form : (ended D d list).out ≡ written D.write (cut D.look left)
  ended-form = ap (λ (m : Log). m.out) (log_is is_damage D.write numbers entry_width (D.stands d).room (opened D d list).kept (cut D.look left))

  feed-granted : (piece out : List ℕ) → Admits D d (length piece) (length list) → length (fed D d piece list).kept.out ≤ length out
      → is_granted (feed_says D d piece out list) ≡ true
  feed-granted piece out a h =
      ap is_granted (admitted-then D d (length piece) (length list) _ a) ∙ rw (le-ltb (length out) (length (fed D d piece list).kept.out) h)

  finish-granted : (out : List ℕ) → Admits D d 0 (length list) → length (ended D d list).out ≤ length out → FinishGrants D d out list
  finish-granted out a h = record {
    admits = a;
    fits = h;
    says = admitted-then D d 0 (length list) _ a ∙ rw (le-ltb (length out) (length (ended D d list).out) h);
  }

module _ {S : Type 0} (D : Decoding S) (L : Lawful D) (room : ℕ) (row text out : List ℕ) (within : length text ≤ limit) where
  -- the feed of the rest of the text into all the output
  abbrev c : Call
  c = call (length text) (length out)

  abbrev wrote_of : List ℕ → List ℕ
  wrote_of so_far = written D.write (parts D.look so_far).done

  module _ (roomy : room ≤ most_room) (entered : entry_width * room ≤ length row) (places : length (form_of D text) ≤ length out) where
    -- ---- the last feed takes the rest of the text into all that is left of the output

    module _ (so_far : List ℕ) (h : Held S) (k : Keeps D room row text out so_far h) where
      abbrev pending : List ℕ
      pending = (D.stands h.state).left

      holds : Holds D room row so_far (caller_of h)
      holds = keeps-holds D room row text out L roomy so_far h k

      row_is : entry_width * (D.stands h.state).room ≤ length h.list
      row_is = omega (arith, entered, holds.room-is, list-long D room row text out L roomy so_far h k)

      done-is : length (wrote_of so_far) ≡ h.done
      done-is = ap length (sym holds.output) ∙ length-take-le h.done h.out k.bounded.done-in

      to_end : end_of text h c ≡ length text
      to_end = bring-all h.from (length text) k.bounded.from_in

      rest-is : piece_of text h c ≡ drop h.from text
      rest-is = ap (λ (n : ℕ). take (n - h.from) (drop h.from text)) to_end ∙ part_is text h.from

      text-is : so_far ++ piece_of text h c ≡ text
      text-is =
          ap (λ (l : List ℕ). l ++ piece_of text h c) k.so-far-is
          ∙ ap (λ (l : List ℕ). take h.from text ++ l) rest-is
          ∙ take-append-drop h.from text

      lent_is : take (length out) (rest_of h) ≡ rest_of h
      lent_is = take_all (length out) (rest_of h) (omega (arith, k.long, length-drop h.done h.out))

      -- what is written yet, what this feed writes, and what finish will
      form-parts : form_of D text ≡ wrote_of so_far
          ++ (wrote_of (pending ++ piece_of text h c) ++ form_of D (parts D.look (pending ++ piece_of text h c)).left)
      form-parts =
          let piece : List ℕ = piece_of text h c in
          let x : List ℕ = pending ++ piece in
          let e : cut D.look text ≡ (parts D.look so_far).done ++ ((parts D.look x).done ++ cut D.look (parts D.look x).left)
          = ap (cut D.look) (sym text-is)
          ∙ cut-append L.division so_far piece
          ∙ ap (λ (l : List ℕ). (parts D.look so_far).done ++ cut D.look (l ++ piece)) (sym holds.pending)
          ∙ ap (λ l. (parts D.look so_far).done ++ l) (cut_parts D.look x) in
          ap (written D.write) e
          ∙ written-append D.write (parts D.look so_far).done ((parts D.look x).done ++ cut D.look (parts D.look x).left)
          ∙ ap (λ (l : List ℕ). wrote_of so_far ++ l) (written-append D.write (parts D.look x).done (cut D.look (parts D.look x).left))

      last-granted : is_granted (says_of D text h c) ≡ true
      last-granted =
          let piece : List ℕ = piece_of text h c in
          let a : List ℕ = wrote_of so_far in
          let b : List ℕ = wrote_of (pending ++ piece) in
          let e : List ℕ = form_of D (parts D.look (pending ++ piece)).left in
          feed-granted D h.state h.list piece (take (length out) (rest_of h))
          (record {
            tests = holds.tests;
            within = omega (arith, within, holds.taken, ap length text-is, length-append so_far piece);
            list = row_is;
          })
          (omega (
            arith,
            places,
            ap length form-parts,
            length-append a (b ++ e),
            length-append b e,
            ap length (fed-form D h.state h.list piece),
            done-is,
            ap length lent_is,
            length-drop h.done h.out,
            k.long,
          ))

      -- ---- and where all is taken, finish writes what is left of the form
      module _ (all : h.from ≡ length text) where
        taken-all : so_far ≡ text
        taken-all = k.so-far-is ∙ ap (λ (n : ℕ). take n text) all ∙ take_all (length text) text (omega arith)

        end-granted : FinishGrants D h.state (rest_of h) h.list
        end-granted =
            let a : List ℕ = wrote_of so_far in
            let b : List ℕ = form_of D (parts D.look so_far).left in
            let e : form_of D text ≡ a ++ b
            = ap (form_of D) (sym taken-all)
            ∙ ap (written D.write) (cut_parts D.look so_far)
            ∙ written-append D.write (parts D.look so_far).done (cut D.look (parts D.look so_far).left) in
            let l : length (ended D h.state h.list).out ≡ length b
            = ap length (ended-form D h.state h.list ∙ ap (form_of D) holds.pending) in
            finish-granted D h.state h.list (rest_of h)
            (record { tests = holds.tests; within = omega (arith, within, holds.taken, ap length taken-all); list = row_is })
            (omega (arith, places, ap length e, length-append a b, l, done-is, length-drop h.done h.out, k.long))

    -- any feeds, and then the last
    module _ (calls : List Call) where
      abbrev h : Held S
      h = behind D room row text out calls

      abbrev all-fed : Held S
      all-fed = behind D room row text out (calls ++ c ∷ [])

      goes_on : all-fed ≡ (feed_of D text).goes h c
      goes_on = behind-one D room row text out calls c ∙ one-granted D text h c (last-granted _ h (keeps D room row text out calls))

      all-taken : all-fed.from ≡ length text
      all-taken = ap (λ (x : Held S). x.from) goes_on ∙ to_end _ h (keeps D room row text out calls)

      ran-granted : (ran D room text (calls ++ c ∷ []) out row).found.granted ≡ true
      ran-granted =
          let k = keeps D room row text out (calls ++ c ∷ []) in
          ap (λ (v : Given). v.found.granted) (ended_so D room row text out L roomy _ all-fed k all-taken (end-granted _ all-fed k all-taken))

  -- GRANTED EXACTLY where there is room
  pub granted-exactly : (calls : List Call) (v : Given) → v ≡ through D room text (calls ++ c ∷ []) out row
      → v.found.granted ≡ enough room (length row) (length (form_of D text)) (length out)
  granted-exactly calls v e = split (enough room (length row) (length (form_of D text)) (length out))
      (λ t.
      let a = both (leb room most_room && leb (entry_width * room) (length row)) (leb (length (form_of D text)) (length out)) t in
      let b = both (leb room most_room) (leb (entry_width * room) (length row)) a.0 in
      let roomy = leb-true room most_room b.0 in
      let g = ran-granted roomy (leb-true (entry_width * room) (length row) b.1) (leb-true (length (form_of D text)) (length out) a.1) calls in
      let same : v ≡ ran D room text (calls ++ c ∷ []) out row = e ∙ rw (le-ltb most_room room roomy) in
      ap (λ (x : Given). x.found.granted) same ∙ g ∙ sym t)
      (λ t. split v.found.granted
      (λ g.
      let r = through-ran D room row text out L (calls ++ c ∷ []) v e g in
      let p : length (form_of D text) ≤ length out
      = omega (arith, ap length r.output, r.fits, r.long, length-take-le v.found.written v.out r.fits) in
      let yes : enough room (length row) (length (form_of D text)) (length out) ≡ true = rw (
        le-leb room most_room r.roomy,
        le-leb (entry_width * room) (length row) r.listed_in,
        le-leb (length (form_of D text)) (length out) p,
      ) in
      absurd (true≢false (sym yes ∙ t)))
      (λ g. g ∙ sym t))
