-- The tests of a state, as facts about its numbers.
use mathlib.Core.Path.{◌≡◌, sym, ◌∙◌}
use Prim.Native.Nat.{◌+◌, ◌*◌, ◌≤◌}
use mathlib.Core.Bool.{true, false}
use lib.Dec.{leb, eqb}
use borrow.Author.Tests.{leb-true, eqb-true, le-leb, eq-eqb}
use Rattle.theory.proofs.Cases.{split, both}
use Rattle.terms.specs.Limits.{limit, most_room, most_damaged}
use Rattle.terms.specs.declared.Decoder.{Decoder}
use Rattle.utf8.specs.Bytes.{bytes}
use Rattle.utf8_pending.specs.Tail.{is_tail}
use Rattle.utf8_pending.proofs.HeldInPlaces.{Tail, tail-is, is-tail}
use Rattle.decoder.specs.Tests.{sound, balanced}

-- ---- the numbers

pub record Balanced (d : Decoder) : Type 0 where
  pub sum : d.whole + d.damaged + d.pending ≡ d.taken
  pub within : d.taken ≤ limit
  pub low : d.count ≤ d.damaged
  pub high : d.damaged ≤ most_damaged * d.count
  pub roomy : d.room ≤ most_room

module _ (d : Decoder) where
  pub balanced-is : balanced d ≡ true → Balanced d
  balanced-is e =
      let a = both _ (leb d.room most_room) e in
      let b = both _ (leb d.damaged (most_damaged * d.count)) a.0 in
      let g = both _ (leb d.count d.damaged) b.0 in
      let h = both (eqb (d.whole + d.damaged + d.pending) d.taken) (leb d.taken limit) g.0 in
      record {
        sum = eqb-true _ _ h.0;
        within = leb-true _ _ h.1;
        low = leb-true _ _ g.1;
        high = leb-true _ _ b.1;
        roomy = leb-true _ _ a.1;
      }

  pub unbalanced : (Balanced d → ⊥) → false ≡ balanced d
  unbalanced f = split (balanced d) (λ e. absurd (f (balanced-is e))) (λ e. sym e)

  -- once the others hold, the room decides
  pub balanced-room : d.whole + d.damaged + d.pending ≡ d.taken → d.taken ≤ limit → d.count ≤ d.damaged → d.damaged ≤ most_damaged * d.count
      → leb d.room most_room ≡ balanced d
  balanced-room s w l h =
      rw (
        eq-eqb (d.whole + d.damaged + d.pending) d.taken s,
        le-leb d.taken limit w,
        le-leb d.count d.damaged l,
        le-leb d.damaged (most_damaged * d.count) h,
      )

-- ---- the pending bytes, and then the numbers

pub sound-not : (d : Decoder) → is_tail bytes d.held d.pending ≡ false → false ≡ sound d
sound-not d e = rw e

pub sound-rest : (d : Decoder) → is_tail bytes d.held d.pending ≡ true → balanced d ≡ sound d
sound-rest d e = rw e

-- what the tests say of a state that passes them
pub record Sound (d : Decoder) : Type 0 where
  pub tail : Tail bytes d.held d.pending
  pub numbers : Balanced d

pub sound_is : (d : Decoder) → sound d ≡ true → Sound d
sound_is d e =
    let b = both (is_tail bytes d.held d.pending) (balanced d) e in
    record { tail = tail-is bytes d.held d.pending b.0; numbers = balanced-is d b.1 }

pub is_sound : (d : Decoder) → Sound d → sound d ≡ true
is_sound d s =
    let b = s.numbers in
    sym (sound-rest d (is-tail bytes d.held d.pending s.tail))
    ∙ sym (balanced-room d b.sum b.within b.low b.high)
    ∙ le-leb d.room most_room b.roomy
