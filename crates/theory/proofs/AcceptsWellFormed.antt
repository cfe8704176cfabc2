-- That a text has no damage exactly if it is well-formed sequences one behind another, for any table whose rows do not meet.
use mathlib.Core.Path.{◌≡◌, refl, sym, ap}
use mathlib.Core.Logic.{◌↔◌}
use Prim.Native.Nat.{ℕ, zero}
use mathlib.Core.List.{List, [], ◌∷◌, cons≢nil}
use lib.ListN.{take, take-append-drop}
use Rattle.theory.specs.Reader.{first, rest, cut}
use Rattle.theory.specs.Stream.{join}
use Rattle.theory.specs.Tally.{entries}
use Rattle.theory.specs.Table.{Row, Kind, whole, damage, is_damage, read}
use Rattle.theory.specs.Sequence.{Sequences, WellFormed}
use Rattle.theory.proofs.Divisions.{cut-nil, cut-cons, by-segments}
use Rattle.theory.proofs.OneDivision.{Sound, no_empty}
use Rattle.theory.proofs.SequencesAreWhole.{cut-sequence, whole-sequence}

module _ (rows : List Row) (cause : ℕ → ℕ) (s : Sound zero rows) where
  -- no entry of the segments of a text of which the first starts at `at`
  abbrev Clean : ℕ → List ℕ → Type 0
  Clean at text = entries is_damage at (cut (read rows cause) text) ≡ []

  -- a whole segment is a sequence, and those of the rest follow it
  one_more : (x : ℕ) (xs : List ℕ) → (read rows cause x xs).tag ≡ whole → WellFormed rows (rest (read rows cause) x xs) → WellFormed rows (x ∷ xs)
  one_more x xs t w = record {
    sequences = (x ∷ take (read rows cause x xs).more xs) ∷ w.sequences;
    each = (whole-sequence rows cause s x xs t, w.each);
    joined = rw (← w.joined) (ap (λ (r : List ℕ). x ∷ r) (sym (take-append-drop (read rows cause x xs).more xs)));
  }

  clean-formed : (text : List ℕ) (at : ℕ) → Clean at text → WellFormed rows text
  clean-formed = by-segments (read rows cause) (λ (text : List ℕ). (at : ℕ) → Clean at text → WellFormed rows text)
      (λ at c. record { sequences = []; each = tt; joined = refl })
      (λ x xs ih at c. go x xs ih at (rw (cut-cons (read rows cause) x xs) at c) (read rows cause x xs).tag refl)
    where
      go : (x : ℕ) (xs : List ℕ) → ((at : ℕ) → Clean at (rest (read rows cause) x xs) → WellFormed rows (rest (read rows cause) x xs)) → (at : ℕ)
          → entries is_damage at (first (read rows cause) x xs ∷ cut (read rows cause) (rest (read rows cause) x xs)) ≡ []
          → (t : Kind) → (read rows cause x xs).tag ≡ t → WellFormed rows (x ∷ xs)
      go x xs ih at c whole t = one_more x xs t (ih _ (rw t at c))
      go x xs ih at c (damage k) t = absurd (cons≢nil (rw t at c))

  formed-clean : (qs : List (List ℕ)) (at : ℕ) → Sequences rows qs → Clean at (join qs)
  formed-clean [] at e = rw (cut-nil (read rows cause))
  formed-clean ([] ∷ qs) at e = absurd (no_empty rows e.0)
  formed-clean ((x ∷ xs) ∷ qs) at e = rw (cut-sequence rows cause s x xs (join qs) e.0) (formed-clean qs _ e.1)

  -- NO DAMAGE EXACTLY IF WELL-FORMED
  pub clean-exactly : (text : List ℕ) → (entries is_damage 0 (cut (read rows cause) text) ≡ []) ↔ WellFormed rows text
  clean-exactly text = (clean-formed text 0, λ w. rw w.joined (formed-clean w.sequences 0 w.each))
