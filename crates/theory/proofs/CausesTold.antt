-- That a segment is read with the cause of which the paper's sentence is true of it, and with no other, for any table whose rows do not meet.
use mathlib.Core.Path.{◌≡◌, refl, ◌∙◌}
use mathlib.Core.Logic.{◌⊎◌, inl, inr, ⊎_elim, ◌↔◌}
use Prim.Native.Nat.{ℕ, zero, suc, ◌≤◌}
use mathlib.Core.Bool.{true}
use mathlib.Core.List.{List, [], ◌∷◌, append-nil}
use mathlib.Core.Option.{none}
use native.Mathlib.Omega.{arith}
use Rattle.theory.specs.Table.{Range, among, Row, stray, foreign, Kind, whole, damage, cause_of, wanted_behind, read}
use Rattle.theory.specs.Sequence.{Whole, Begun, Longest, StoppedBy, Lone, Stands, Sentence, Caused}
use Rattle.theory.proofs.OneDivision.{Sound, no_empty, lone-begins-none, begins-none-lone, stands_read}

-- the lone elements of a table are those of some ranges, and these have their causes
pub record LoneAre (rows : List Row) (strays foreigners : List Range) (cause : ℕ → ℕ) (x : ℕ) : Type 0 where
  pub of_strays : among strays x ≡ true → (wanted_behind rows x ≡ none) × (cause x ≡ stray)
  pub of_foreigners : among foreigners x ≡ true → (wanted_behind rows x ≡ none) × (cause x ≡ foreign)
  pub no_others : wanted_behind rows x ≡ none → (among strays x ≡ true) ⊎ (among foreigners x ≡ true)

module _ (rows : List Row) (strays foreigners : List Range) (cause : ℕ → ℕ) (s : Sound zero rows) (x : ℕ) (xs : List ℕ)
    (lone : LoneAre rows strays foreigners cause x) where
  abbrev text : List ℕ
  text = x ∷ xs

  abbrev Says : ℕ → ℕ → Type 0
  Says = Sentence rows strays foreigners text

  -- a whole segment begins a sequence
  whole-begun : (n : ℕ) → Whole rows text n → Begun rows text n
  whole-begun zero w = absurd (no_empty rows w.sequence)
  whole-begun (suc n) w = record { some = omega arith; inside = w.inside; others = []; sequence = rw append-nil w.sequence }

  -- what is begun is no lone element
  no_stray : (n : ℕ) → Begun rows text n → among strays x ≡ true → ⊥
  no_stray n b a = lone-begins-none rows cause s x xs (lone.of_strays a).0 n b

  no-foreigner : (n : ℕ) → Begun rows text n → among foreigners x ≡ true → ⊥
  no-foreigner n b a = lone-begins-none rows cause s x xs (lone.of_foreigners a).0 n b

  told-whole : (n : ℕ) → Whole rows text n → (k : ℕ) → Says n k ↔ (0 ≡ k)
  told-whole n w zero = (λ h. refl, λ e. w)
  told-whole n w (suc zero) = (λ h. absurd (no_stray n (whole-begun n w) h.1), λ e. absurd (omega (arith, e)))
  told-whole n w (suc (suc zero)) = (λ h. absurd (no-foreigner n (whole-begun n w) h.1), λ e. absurd (omega (arith, e)))
  told-whole n w (suc (suc (suc zero))) = (λ h. absurd (h.0.0 n w), λ e. absurd (omega (arith, e)))
  told-whole n w (suc (suc (suc (suc zero)))) = (λ h. absurd (h.0.0 n w), λ e. absurd (omega (arith, e)))
  told-whole n w (suc (suc (suc (suc (suc k))))) = (λ h. absurd h, λ e. absurd (omega (arith, e)))

  module _ (n c : ℕ) (no_whole : (k : ℕ) → Whole rows text k → ⊥) where
    -- a begun sequence that is stopped
    module _ (l : Longest rows text n) where
      three-or-four : StoppedBy rows text n c → (3 ≤ c) × (c ≤ 4)
      three-or-four (inl a) = (omega (arith, a.1), omega (arith, a.1))
      three-or-four (inr a) = (omega (arith, a.1), omega (arith, a.1))

      told-stopped : StoppedBy rows text n c → (k : ℕ) → Says n k ↔ (c ≡ k)
      told-stopped b zero = (λ w. absurd (no_whole n w), λ e. absurd (omega (arith, e, three-or-four b)))
      told-stopped b (suc zero) = (λ h. absurd (no_stray n l.begun h.1), λ e. absurd (omega (arith, e, three-or-four b)))
      told-stopped b (suc (suc zero)) = (λ h. absurd (no-foreigner n l.begun h.1), λ e. absurd (omega (arith, e, three-or-four b)))
      told-stopped (inl a) (suc (suc (suc zero))) = (λ h. a.1, λ e. ((no_whole, l), a.0))
      told-stopped (inr a) (suc (suc (suc zero))) = (λ h. absurd (omega (arith, h.1, a.0)), λ e. absurd (omega (arith, e, a.1)))
      told-stopped (inl a) (suc (suc (suc (suc zero)))) = (λ h. absurd (omega (arith, h.1, a.0)), λ e. absurd (omega (arith, e, a.1)))
      told-stopped (inr a) (suc (suc (suc (suc zero)))) = (λ h. a.1, λ e. ((no_whole, l), a.0))
      told-stopped b (suc (suc (suc (suc (suc k))))) = (λ h. absurd h, λ e. absurd (omega (arith, e, three-or-four b)))

    -- a lone element
    module _ (o : Lone rows text cause n c) where
      named : (among strays x ≡ true) ⊎ (among foreigners x ≡ true)
      named = lone.no_others (begins-none-lone rows cause s x xs o.begins-none)

      one_or_two : (1 ≤ c) × (c ≤ 2)
      one_or_two = ⊎_elim (λ a. omega (arith, o.own, (lone.of_strays a).1)) (λ a. omega (arith, o.own, (lone.of_foreigners a).1)) named

      told_lone : (k : ℕ) → Says n k ↔ (c ≡ k)
      told_lone zero = (λ w. absurd (no_whole n w), λ e. absurd (omega (arith, e, one_or_two)))
      told_lone (suc zero) = (
        λ h. o.own ∙ (lone.of_strays h.1).1,
        λ e. (o.one, ⊎_elim (λ a. a) (λ a. absurd (omega (arith, e, o.own, (lone.of_foreigners a).1))) named),
      )
      told_lone (suc (suc zero)) = (
        λ h. o.own ∙ (lone.of_foreigners h.1).1,
        λ e. (o.one, ⊎_elim (λ a. absurd (omega (arith, e, o.own, (lone.of_strays a).1))) (λ a. a) named),
      )
      told_lone (suc (suc (suc k))) = (
        λ h. absurd (none-longer k h),
        λ e. absurd (omega (arith, e, one_or_two)),
      )
        where
          none-longer : (k : ℕ) → Says n (suc (suc (suc k))) → ⊥
          none-longer zero h = o.begins-none n h.0.1.begun
          none-longer (suc zero) h = o.begins-none n h.0.1.begun
          none-longer (suc (suc k)) h = h

  told-stands : (n : ℕ) (t : Kind) → Stands rows text cause n t → (k : ℕ) → Says n k ↔ (cause_of t ≡ k)
  told-stands n whole w = told-whole n w
  told-stands n (damage c) d = ⊎_elim (λ p. told-stopped n c d.none p.0 p.1) (told_lone n c d.none) d.part

  -- EXACTLY ONE CAUSE
  pub causes-told : Caused rows strays foreigners (read rows cause) x xs
  causes-told = told-stands (suc (read rows cause x xs).more) (read rows cause x xs).tag (stands_read rows cause s x xs)
