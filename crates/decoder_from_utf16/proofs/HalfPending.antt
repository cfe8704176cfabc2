-- What a state that passes its tests has pending: nothing, or one first half; and it is the state that stands for what it stands for.
use mathlib.Core.Path.{◌≡◌, refl, ap, ◌∙◌}
use mathlib.Core.Logic.{inl, inr, ⊎_elim}
use Prim.Native.Nat.{ℕ}
use mathlib.Core.Bool.{true}
use mathlib.Core.List.{List, [], ◌∷◌, ◌++◌}
use lib.ListN.{length, get_or, take}
use native.Mathlib.Omega.{arith}
use Rattle.theory.specs.Reader.{pending}
use Rattle.utf16.specs.Units.{units}
use Rattle.utf16.proofs.RowsOfUnits.{FirstHalf, first_ended}
use Rattle.decoder_from_utf16.specs.State.{unit_decoding}
use Rattle.decoder_from_utf16.specs.declared.UnitDecoder.{UnitDecoder}
use Rattle.decoder_from_utf16.proofs.TestsAsFacts.{Tail, Sound}

first_of : (held : List ℕ) → FirstHalf (get_or held 0 0) → take 1 held ≡ get_or held 0 0 ∷ []
first_of [] h = absurd (omega (arith, h.0))
first_of (x ∷ xs) h = refl

-- a half is kept as it is, and where there is none its place is 0
held_kept : (held : List ℕ) (n : ℕ) → length held ≡ 1 → Tail held n → (held ≡ take 1 (take n held ++ 0 ∷ [])) × (n ≡ length (take n held))
held_kept [] n e t = absurd (omega arith)
held_kept (x ∷ []) n e (inl t) = rw (t.0, t.1) (refl, refl)
held_kept (x ∷ []) n e (inr t) = rw t.0 (refl, refl)
held_kept (x ∷ y ∷ ys) n e t = absurd (omega arith)

-- the half that is pending
pub record Half (d : UnitDecoder) : Type 0 where
  pub one : d.pending ≡ 1
  pub half : FirstHalf (get_or d.held 0 0)
  pub left_is : (unit_decoding.stands d).left ≡ get_or d.held 0 0 ∷ []

module _ (d : UnitDecoder) (s : Sound d) where
  pub half_is : (d.pending ≡ 0 → ⊥) → Half d
  half_is f = ⊎_elim (λ t. absurd (f t.0)) (λ t. record { one = t.0; half = t.1; left_is = rw t.0 (first_of d.held t.1) }) s.tail

  -- of what is pending nothing is settled
  pub left-begins : pending units (unit_decoding.stands d).left ≡ true
  left-begins = ⊎_elim (λ t. rw t.0) (λ t. rw (t.0, first_of d.held t.1, first_ended (get_or d.held 0 0) t.1)) s.tail

  -- an array of one place
  pub stands_same : length d.held ≡ 1 → d ≡ unit_decoding.state (unit_decoding.stands d)
  stands_same one =
      let k = held_kept d.held d.pending one s.tail in
      ap (λ (h : List ℕ). record {
        held = h;
        pending = d.pending;
        taken = d.taken;
        whole = d.whole;
        damaged = d.damaged;
        count = d.count;
        room = d.room;
      }) k.0
      ∙ ap (λ (n : ℕ). record {
        held = take 1 (take d.pending d.held ++ 0 ∷ []);
        pending = n;
        taken = d.taken;
        whole = d.whole;
        damaged = d.damaged;
        count = d.count;
        room = d.room;
      }) k.1
