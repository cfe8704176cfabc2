-- The tests of a state of the decoder of units, as facts about what is pending and about its numbers.
use mathlib.Core.Path.{◌≡◌, refl, sym}
use mathlib.Core.Logic.{◌⊎◌, inl, inr}
use Prim.Native.Nat.{ℕ, ◌+◌, ◌≤◌, ◌<◌}
use mathlib.Core.Bool.{Bool, true, false, ◌&&◌}
use mathlib.Core.List.{List}
use lib.ListN.{get_or}
use lib.Dec.{leb, eqb}
use borrow.Author.Tests.{leb-true, eqb-true, le-leb, lt-leb, eq-eqb, ne_eqb}
use Rattle.theory.proofs.Cases.{split, both}
use Rattle.terms.specs.Limits.{limit, most_room}
use Rattle.utf16.proofs.RowsOfUnits.{FirstHalf}
use Rattle.decoder_from_utf16.specs.Tests.{is_half, is_tail, sound, balanced}
use Rattle.decoder_from_utf16.specs.declared.UnitDecoder.{UnitDecoder}

-- ---- what is pending

-- nothing, and its place is 0; or one first half
abbrev pub Tail : List ℕ → ℕ → Type 0
Tail held n = ((n ≡ 0) × (get_or held 0 0 ≡ 0)) ⊎ ((n ≡ 1) × FirstHalf (get_or held 0 0))

module _ (held : List ℕ) (n : ℕ) where
  pub tail_none : n ≡ 0 → eqb (get_or held 0 0) 0 ≡ is_tail held n
  tail_none e = rw (eq-eqb n 0 e)

  pub tail-many : (n ≡ 0 → ⊥) → (n ≡ 1 → ⊥) → false ≡ is_tail held n
  tail-many f g = rw (ne_eqb n 0 f, ne_eqb n 1 g)

  pub tail-low : (n ≡ 0 → ⊥) → get_or held 0 0 < 0xD800 → false ≡ is_tail held n
  tail-low f h = rw (ne_eqb n 0 f, lt-leb _ _ h) (sym (none (eqb n 1)))
    where
      none : (b : Bool) → b && false ≡ false
      none true = refl
      none false = refl

  pub tail-half : n ≡ 1 → 0xD800 ≤ get_or held 0 0 → leb (get_or held 0 0) 0xDBFF ≡ is_tail held n
  tail-half e h = rw (e, le-leb _ _ h)

  pub tail-is : is_tail held n ≡ true → Tail held n
  tail-is e = split (eqb n 0)
      (λ z. inl (eqb-true _ _ z, eqb-true _ _ (rw z at e)))
      (λ z.
      let b = both (eqb n 1) (is_half (get_or held 0 0)) (rw z at e) in
      let h = both (leb 0xD800 (get_or held 0 0)) (leb (get_or held 0 0) 0xDBFF) b.1 in
      inr (eqb-true _ _ b.0, (leb-true _ _ h.0, leb-true _ _ h.1)))

-- ---- the numbers

pub record Balanced (d : UnitDecoder) : Type 0 where
  pub sum : d.whole + d.damaged + d.pending ≡ d.taken
  pub within : d.taken ≤ limit
  pub ones : d.count ≡ d.damaged
  pub roomy : d.room ≤ most_room

module _ (d : UnitDecoder) where
  pub balanced-is : balanced d ≡ true → Balanced d
  balanced-is e =
      let a = both _ (leb d.room most_room) e in
      let b = both _ (eqb d.count d.damaged) a.0 in
      let h = both (eqb (d.whole + d.damaged + d.pending) d.taken) (leb d.taken limit) b.0 in
      record { sum = eqb-true _ _ h.0; within = leb-true _ _ h.1; ones = eqb-true _ _ b.1; roomy = leb-true _ _ a.1 }

  pub unbalanced : (Balanced d → ⊥) → false ≡ balanced d
  unbalanced f = split (balanced d) (λ e. absurd (f (balanced-is e))) (λ e. sym e)

  -- once the others hold, the room decides
  pub balanced-room : d.whole + d.damaged + d.pending ≡ d.taken → d.taken ≤ limit → d.count ≡ d.damaged → leb d.room most_room ≡ balanced d
  balanced-room s w o =
      rw (eq-eqb (d.whole + d.damaged + d.pending) d.taken s, le-leb d.taken limit w, eq-eqb d.count d.damaged o)

-- ---- the pending unit, and then the numbers

pub sound-not : (d : UnitDecoder) → is_tail d.held d.pending ≡ false → false ≡ sound d
sound-not d e = rw e

pub sound-rest : (d : UnitDecoder) → is_tail d.held d.pending ≡ true → balanced d ≡ sound d
sound-rest d e = rw e

-- what the tests say of a state that passes them
pub record Sound (d : UnitDecoder) : Type 0 where
  pub tail : Tail d.held d.pending
  pub numbers : Balanced d

pub sound_is : (d : UnitDecoder) → sound d ≡ true → Sound d
sound_is d e =
    let b = both (is_tail d.held d.pending) (balanced d) e in
    record { tail = tail-is d.held d.pending b.0; numbers = balanced-is d b.1 }
