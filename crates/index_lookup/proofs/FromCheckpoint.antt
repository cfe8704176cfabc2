-- Lookup from a checkpoint on: what the walk from it tells, and the refusals before.
use mathlib.Core.Path.{◌≡◌, refl, sym, ap, ◌∙◌}
use Prim.Native.Nat.{ℕ, ◌+◌, ◌-◌, ◌*◌, ◌/◌, ◌≤◌, ◌<◌}
use mathlib.Core.Logic.{inl}
use mathlib.Core.Bool.{Bool, true, false, ◌&&◌, true≢false}
use mathlib.Core.List.{List, [], ◌∷◌}
use lib.ListN.{length, get_or, take, drop, length-drop}
use lib.Dec.{eqb, leb, ltb}
use borrow.Author.Tests.{leb-true, lt-ltb, le-ltb, ltb-false}
use native.Mathlib.Omega.{arith}
use Rattle.theory.specs.Index.{marks, usable, from, by_bytes}
use Rattle.theory.proofs.Cases.{both, split}
use Rattle.theory.proofs.Rows.{div_in}
use Rattle.theory.proofs.TrueIndexAnswers.{Chosen, halve-chosen}
use Rattle.terms.specs.Limits.{limit}
use Rattle.std.specs.Prelude.{Ok}
use Rattle.terms.specs.Told.{told_refusal, told_checked}
use Rattle.terms.specs.declared.Refusal.{Refusal}
use Rattle.terms.proofs.ToldBack.{no_zero}
use Rattle.terms.proofs.WalkBySegments.{part_is}
use Rattle.place.specs.Measures.{ruler, reader, longest}
use Rattle.place.specs.Lookup.{found_says}
use Rattle.place.specs.Walk.{number, measure, fair, walk_says, resume_says}
use Rattle.place.specs.declared.Place.{Place}
use Rattle.place.specs.declared.Offset.{Offset}
use Rattle.index_checkpoint.specs.Checkpoints.{spacing, needed, checkpoint}
use Rattle.index_checkpoint.specs.Choosing.{less, passes, halved}
use Rattle.index_lookup.specs.Looking.{indexed, byte_says, halving_says}
use Rattle.index_lookup.specs.Inside.Resuming.{Among, from_says, room_says}

-- ---- the walk from a usable checkpoint, which is handed `&text[at..]`

module _ (m : Place → ℕ) (o j : ℕ) (q : Place) where
  pub from-unusable : (text : List ℕ) → usable reader ruler longest spacing fair m o j q ≡ false
      → 6 ∷ j ∷ [] ≡ found_says (from reader ruler longest spacing fair m o j q text)
  from-unusable text e = rw e

  module _ (e : usable reader ruler longest spacing fair m o j q ≡ true) where
    tests : (q.bytes ≤ spacing * j) × (fair q ≡ true)
    tests =
        let a = both (leb (spacing * j) (q.bytes + 3) && leb q.bytes (spacing * j) && fair q) (leb (m q) o) e in
        let b = both (leb (spacing * j) (q.bytes + 3) && leb q.bytes (spacing * j)) (fair q) a.0 in
        let c = both (leb (spacing * j) (q.bytes + 3)) (leb q.bytes (spacing * j)) b.0 in
        (leb-true q.bytes (spacing * j) c.1, b.1)

    pub usable-in : (text : List ℕ) → spacing * j ≤ length text → q.bytes ≤ length text
    usable-in text h = omega (arith, tests.0)

    pub from-usable : (text : List ℕ) → length text ≤ limit → spacing * j ≤ length text
        → resume_says m o q (take (length text - q.bytes) (drop q.bytes text)) ≡ found_says (from reader ruler longest spacing fair m o j q text)
    from-usable text w h =
        let rest : List ℕ = drop q.bytes text in
        let l : q.bytes + length rest ≤ limit = omega (arith, usable-in text h, length-drop q.bytes text) in
        let walks : resume_says m o q (take (length text - q.bytes) rest) ≡ walk_says m o q rest
        = rw (part_is text q.bytes, le-ltb limit (q.bytes + length rest) l, tests.1) in
        walks ∙ rw e

-- the checkpoint as it was read
pub from-read : (to : Offset) (j : ℕ) (text row : List ℕ) (q : Place) → q ≡ checkpoint row j
    → found_says (from reader ruler longest spacing fair (measure to) (number to) j q text) ≡ from_says to j text row
from-read to j text row q e = ap (λ (p : Place). found_says (from reader ruler longest spacing fair (measure to) (number to) j p text)) e

-- ---- the refusals before: 2, then 3

module _ (text row granted : List ℕ) where
  pub indexed-on : length text ≤ limit → needed (length text) ≤ length row → indexed text row granted ≡ granted
  indexed-on h k = rw (le-ltb limit (length text) h, le-ltb (length row) (needed (length text)) k)

  -- what was refused before is refused alike
  pub indexed-refused : (r : Refusal) → told_refusal r ≡ room_says (length text) row (0 ∷ []) → told_refusal r ≡ indexed text row granted
  indexed-refused r e = split (ltb limit (length text))
      (λ o. let g : told_refusal r ≡ 2 ∷ [] = rw o at e in rw o g)
      (λ o. split (ltb (length row) (needed (length text)))
      (λ s. let g : told_refusal r ≡ 3 ∷ needed (length text) ∷ [] = rw (o, s) at e in rw (o, s) g)
      (λ s.
      let g : told_refusal r ≡ 0 ∷ [] = rw (o, s) at e in
      absurd (true≢false (sym (ap (λ (l : List ℕ). eqb (get_or l 0 0) 0) g) ∙ no_zero r))))

-- what was granted is within the limit, and the index is long enough
pub indexed-granted : (text row : List ℕ) → told_checked (Ok tt) ≡ room_says (length text) row (0 ∷ [])
    → (length text ≤ limit) × (needed (length text) ≤ length row)
indexed-granted text row e = split (ltb limit (length text))
    (λ o. let g : 0 ∷ [] ≡ 2 ∷ [] = rw o at e in let z : ◌≡◌ {A = ℕ} 0 2 = cc in absurd (omega arith))
    (λ o. split (ltb (length row) (needed (length text)))
    (λ s. let g : 0 ∷ [] ≡ 3 ∷ needed (length text) ∷ [] = rw (o, s) at e in let z : ◌≡◌ {A = ℕ} 0 3 = cc in absurd (omega arith))
    (λ s. (ltb-false limit (length text) o, ltb-false (length row) (needed (length text)) s)))

-- ---- then the checkpoint that is chosen, which is one of the text's

module _ (text row : List ℕ) (h : length text ≤ limit) (room : needed (length text) ≤ length row) where
  -- by division, behind refusal 4
  pub byte_past : (o : ℕ) → length text < o → 4 ∷ [] ≡ byte_says o text row
  byte_past o k =
      let says : 4 ∷ [] ≡ found_says (by_bytes reader ruler longest spacing fair o (checkpoint row) text) = rw (lt-ltb (length text) o k) in
      says ∙ sym (indexed-on text row _ h room)

  pub byte-among : (o : ℕ) → o ≤ length text → Among (o / spacing) text
  byte-among o k = record { within = h; reached = omega arith }

  pub byte-from : (o : ℕ) → o ≤ length text
      → found_says (from reader ruler longest spacing fair (λ p. p.bytes) o (o / spacing) (checkpoint row (o / spacing)) text) ≡ byte_says o text row
  byte-from o k =
      let says : by_bytes reader ruler longest spacing fair o (checkpoint row) text
      ≡ from reader ruler longest spacing fair (λ p. p.bytes) o (o / spacing) (checkpoint row (o / spacing)) text
      = rw (le-ltb (length text) o k) in
      sym (ap found_says says) ∙ sym (indexed-on text row _ h room)

  -- by halving
  module _ (to : Offset) (n : ℕ) (count : n ≡ marks spacing (length text)) (j : ℕ) (choice : j ≡ halved to row n) where
    pub halving-among : Among j text
    halving-among =
        let t : ℕ → Bool = λ k. passes to (checkpoint row k) in
        let c : Chosen t n (halved to row n) = halve-chosen t n 0 n (record { below = omega arith; passes = inl refl }) in
        let b : j < marks spacing (length text) = rw (choice, ← count) c.below in
        record { within = h; reached = div_in spacing (length text) j b }

    pub halving-from : from_says to j text row ≡ halving_says (measure to) (less to) (number to) text row
    halving-from = ap (λ (k : ℕ). from_says to k text row) (choice ∙ ap (halved to row) count) ∙ sym (indexed-on text row _ h room)
