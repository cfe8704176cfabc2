-- The comparison of two states says yes exactly of the same, and a feed from the fresh state is refused only where that is due.
use mathlib.Core.Path.{◌≡◌, sym, ap, ◌∙◌}
use Prim.Native.Nat.{ℕ, ◌*◌}
use mathlib.Core.Bool.{Bool, true, true≢false}
use mathlib.Core.List.{List, [], ◌∷◌}
use lib.ListN.{length}
use lib.Dec.{ltb, eqb}
use borrow.Author.Tests.{eq-eqb, eqb-true, lt-ltb, le-leb}
use native.Mathlib.Omega.{arith}
use Rattle.theory.proofs.Cases.{split, both, under}
use Rattle.terms.specs.Limits.{limit, most_room, entry_width, fresh_of}
use Rattle.terms.specs.Told.{told_refusal, is_granted}
use Rattle.terms.specs.Writing.{roomed}
use Rattle.terms.specs.declared.Decoder.{Decoder}
use Rattle.terms.specs.declared.Refusal.{Refusal}
use Rattle.terms.specs.declared.Refusal.TheVariants.{OverLimit, NoRoom, ListRoom, BadState}
use Rattle.terms.proofs.ToldBack.{told_refusal_lem, no_zero}
use Rattle.decoder_shared.proofs.ChecksInOrder.{admitted-unsound, admitted-over, admitted-list, admitted-then}
use Rattle.decoder.specs.State.{sound, byte_decoding, fed}
use Rattle.decoder.specs.Feeding.{feed_says}
use Rattle.demand_shared.specs.Equal.{equal}
use Rattle.demand_shared.proofs.EqualExactly.{equal-yes, equal-only}
use Rattle.demand_watch.specs.Inside.Comparing.{same_state, is_due}

-- ---- two states

module _ (d e : Decoder) where
  -- yes only of the same
  pub same_is : same_state d e ≡ true → d ≡ e
  same_is h =
      let room = both _ (eqb d.room e.room) h in
      let count = both _ (eqb d.count e.count) room.0 in
      let damaged = both _ (eqb d.damaged e.damaged) count.0 in
      let whole = both _ (eqb d.whole e.whole) damaged.0 in
      let taken = both _ (eqb d.taken e.taken) whole.0 in
      let pending = both (equal d.held e.held) (eqb d.pending e.pending) taken.0 in
      λ i. record {
        held = equal-only d.held e.held pending.0 i;
        pending = eqb-true d.pending e.pending pending.1 i;
        taken = eqb-true d.taken e.taken taken.1 i;
        whole = eqb-true d.whole e.whole whole.1 i;
        damaged = eqb-true d.damaged e.damaged damaged.1 i;
        count = eqb-true d.count e.count count.1 i;
        room = eqb-true d.room e.room room.1 i;
      }

  -- where the others are the same, the rooms decide
  room-decides : equal d.held e.held ≡ true → d.pending ≡ e.pending → d.taken ≡ e.taken → d.whole ≡ e.whole → d.damaged ≡ e.damaged
      → d.count ≡ e.count → eqb d.room e.room ≡ same_state d e
  room-decides held pending taken whole damaged count =
      rw (
        held,
        eq-eqb d.pending e.pending pending,
        eq-eqb d.taken e.taken taken,
        eq-eqb d.whole e.whole whole,
        eq-eqb d.damaged e.damaged damaged,
        eq-eqb d.count e.count count,
      )

-- and it is yes of these
pub same_if : (d e : Decoder) → d ≡ e → same_state d e ≡ true
same_if d e h =
    let at : (f : Decoder → ℕ) → f d ≡ f e = λ f. ap f h in
    sym (room-decides d e (equal-yes d.held e.held (ap (λ (k : Decoder). k.held) h)) (at (λ k. k.pending)) (at (λ k. k.taken))
    (at (λ k. k.whole)) (at (λ k. k.damaged)) (at (λ k. k.count)))
    ∙ eq-eqb d.room e.room (at (λ k. k.room))

-- ---- a refusal

module _ (room : ℕ) (text out list : List ℕ) (why : Refusal) (e : told_refusal why ≡ feed_says (fresh_of room) text out list) where
  abbrev asked : Refusal → Bool
  asked r = is_due r (length text) room (length out) (length list)

  so : (r : Refusal) → feed_says (fresh_of room) text out list ≡ told_refusal r → asked r ≡ true → asked why ≡ true
  so r f h = ap asked (told_refusal_lem why r (e ∙ f)) ∙ h

  pub refused-due : asked why ≡ true
  refused-due =
      let d = fresh_of room in
      let long = length text in
      let row = length list in
      let form = length (fed d text list).kept.out in
      split (sound d)
      (λ s.
      under limit long
      (λ h. so OverLimit (sym (admitted-over byte_decoding d long row _ s (omega arith))) (lt-ltb limit long h))
      (λ h.
      under row (entry_width * room)
      (λ k. so ListRoom (sym (admitted-list byte_decoding d long row _ s (omega arith) k)) (lt-ltb row (entry_width * room) k))
      (λ k.
      let a = admitted-then byte_decoding d long row (roomed (length out) (fed d text list).kept.out) (record { tests = s; within = omega arith; list = k }) in
      split (ltb (length out) form)
      (λ n. so (NoRoom form) (a ∙ rw n) n)
      (λ n.
      let zero : told_refusal why ≡ 0 ∷ form ∷ [] = e ∙ a ∙ rw n in
      absurd (true≢false (sym (ap is_granted zero) ∙ no_zero why))))))
      (λ s.
      so BadState (sym (admitted-unsound byte_decoding d long row _ s))
      (under most_room room (lt-ltb most_room room) (λ h. absurd (true≢false (sym (le-leb room most_room h) ∙ s)))))
