-- The audit: each checkpoint is found from the one before, and compared; what is left to compare decides.
use mathlib.Core.Path.{◌≡◌, refl, sym, ap, ◌∙◌}
use Prim.Native.Nat.{ℕ, suc, ◌+◌, ◌-◌, ◌*◌, ◌≤◌, ◌<◌}
use native.Mathlib.Nat.{sub-zero}
use mathlib.Core.Bool.{true, false, ◌&&◌, true≢false}
use mathlib.Core.List.{List, ◌∷◌, ◌++◌}
use lib.ListN.{length, get_or, take, drop, length-drop}
use lib.Seq.{drop-drop, take-add}
use lib.Dec.{eqb}
use borrow.Author.Tests.{le-ltb, le-leb, lt-leb}
use native.Mathlib.Omega.{arith}
use Rattle.std.specs.Prelude.{Result, Ok, Err}
use Rattle.theory.specs.Reader.{cut}
use Rattle.theory.specs.Tally.{written}
use Rattle.theory.specs.Place.{last, mark}
use Rattle.theory.specs.Index.{tab, marks}
use Rattle.theory.proofs.PlacesFound.{start-boundary, last-from, bytes-mono, PlaceOf, place_in, place-behind, mark-place, mark-le}
use Rattle.terms.specs.Limits.{limit}
use Rattle.terms.specs.Told.{told_refusal}
use Rattle.terms.specs.declared.Refusal.{Refusal}
use Rattle.terms.proofs.ToldBack.{no_zero}
use Rattle.terms.proofs.WalkBySegments.{part_is}
use Rattle.place.proofs.ReaderDivides.{reader_division}
use Rattle.place.specs.Measures.{ruler, reader}
use Rattle.place.specs.Lookup.{four_counts, told_placed}
use Rattle.place.specs.Walk.{reached, last_says}
use Rattle.place.specs.declared.Place.{Place}
use Rattle.place.proofs.MeasuresRise.{measured}
use Rattle.place.proofs.ToldBack.{told_counts}
use Rattle.index_checkpoint.specs.Checkpoints.{spacing, width, needed, checkpoint}
use Rattle.index_lookup.proofs.AnswersAsPlain.{fair-place}
use Rattle.index_audit.specs.Audits.{same, audit_says}
use Rattle.index_audit.proofs.ComparedByNumbers.{checkpoint_counts, same_append}

-- ---- places of a text within the limit

-- a later mark is found from each of them that does not lie behind it
mark-from : (text : List ℕ) (most : ℕ) {p : Place} → PlaceOf reader ruler text p → p.bytes ≤ most
    → reached (λ p. p.bytes) most p (drop p.bytes text) ≡ mark reader ruler most text
mark-from text most {p} b h =
    ap (last ruler.step ruler.bytes most p) (sym (place-behind reader_division measured text b))
    ∙ sym (ap (last ruler.step ruler.bytes most ruler.zeroth) b.joined
    ∙ last-from ruler.step ruler.bytes (bytes-mono measured) most ruler.zeroth b.front b.behind (rw b.place at h)
    ∙ rw (← b.place))

-- as the walk tells it, which is handed `&text[at..]`
pub mark-told : (text : List ℕ) → length text ≤ limit → (most : ℕ) {p : Place} → PlaceOf reader ruler text p → p.bytes ≤ most
    → last_says (λ p. p.bytes) most p (take (length text - p.bytes) (drop p.bytes text)) ≡ 0 ∷ four_counts (mark reader ruler most text)
mark-told text h most {p} b k =
    let rest : List ℕ = drop p.bytes text in
    let l : p.bytes + length rest ≤ limit = omega (arith, place_in reader measured text b, length-drop p.bytes text) in
    rw (part_is text p.bytes, le-ltb limit (p.bytes + length rest) l, fair-place text h b)
    (ap (λ (q : Place). 0 ∷ four_counts q) (mark-from text most b k))

-- ---- THE WAY: what is left to compare, from checkpoint k on, decides

abbrev rows : List ℕ → ℕ → ℕ → List ℕ
rows text k n = written four_counts (tab k n (λ i. mark reader ruler (spacing * i) text))

pub record Audited (text row : List ℕ) (k : ℕ) (p : Place) : Type 0 where
  pub within : length text ≤ limit
  pub room : needed (length text) ≤ length row
  pub upto : k ≤ marks spacing (length text)
  pub place : PlaceOf reader ruler text p
  pub before : p.bytes ≤ spacing * k
  pub left : let n = marks spacing (length text) - k in audit_says text row ≡ same (take (width * n) (drop (width * k) row)) (rows text k n)

-- refused before
module _ (text row : List ℕ) where
  pub audit-over : limit < length text → false ≡ audit_says text row
  audit-over h = rw (lt-leb (length text) limit h)

  pub audit-short : length text ≤ limit → length row < needed (length text) → false ≡ audit_says text row
  audit-short h k = rw (le-leb (length text) limit h, lt-leb (needed (length text)) (length row) k)

  pub audited-start : length text ≤ limit → needed (length text) ≤ length row → Audited text row 0 ruler.zeroth
  audited-start h k = record {
    within = h;
    room = k;
    upto = omega arith;
    place = start-boundary ruler.step ruler.zeroth (cut reader text);
    before = omega arith;
    left = rw (le-leb (length text) limit h, le-leb (needed (length text)) (length row) k, sub-zero);
  }

module _ {text row : List ℕ} {k : ℕ} {p : Place} (a : Audited text row k p) where
  -- it has come to a place of the text
  pub audited-in : p.bytes ≤ length text
  audited-in = place_in reader measured text a.place

  -- all are compared
  pub audited-end : marks spacing (length text) ≤ k → true ≡ audit_says text row
  audited-end h = let z : marks spacing (length text) - k ≡ 0 = omega arith in rw (a.left, z)

  -- what the walk to the next mark told
  module _ (r : Result Place Refusal) (told : told_placed r ≡ last_says (λ p. p.bytes) (spacing * k) p (take (length text - p.bytes) (drop p.bytes text))) where
    told-mark : told_placed r ≡ 0 ∷ four_counts (mark reader ruler (spacing * k) text)
    told-mark = told ∙ mark-told text a.within (spacing * k) a.place a.before

    pub audited-found : (q : Place) → r ≡ Ok q → q ≡ mark reader ruler (spacing * k) text
    audited-found q e =
        let f : 0 ∷ four_counts q ≡ 0 ∷ four_counts (mark reader ruler (spacing * k) text) = ap told_placed (sym e) ∙ told-mark in
        told_counts q (mark reader ruler (spacing * k) text) (cc)

    pub audited-refused : (w : Refusal) → r ≡ Err w → ⊥
    audited-refused w e =
        let f : told_refusal w ≡ 0 ∷ four_counts (mark reader ruler (spacing * k) text) = ap told_placed (sym e) ∙ told-mark in
        true≢false (sym (ap (λ (l : List ℕ). eqb (get_or l 0 0) 0) f) ∙ no_zero w)

  module _ (more : k < marks spacing (length text)) where
    has : width * suc k ≤ length row
    has = omega (arith, a.room)

    -- the next one is compared, and then the others
    turn : let n = marks spacing (length text) - suc k in
        audit_says text row
        ≡ same (four_counts (checkpoint row k)) (four_counts (mark reader ruler (spacing * k) text))
        && same (take (width * n) (drop (width * suc k) row)) (rows text (suc k) n)
    turn =
        let n : ℕ = marks spacing (length text) - suc k in
        let e : marks spacing (length text) - k ≡ suc n = omega arith in
        let f : width * suc n ≡ width + width * n = omega arith in
        let g : width * k + width ≡ width * suc k = omega arith in
        let t : take (width * suc n) (drop (width * k) row) ≡ four_counts (checkpoint row k) ++ take (width * n) (drop (width * suc k) row)
        = rw (f, take-add width (width * n) (drop (width * k) row), drop-drop width (width * k) row, g)
        (ap (λ (l : List ℕ). l ++ take (width * n) (drop (width * suc k) row)) (sym (checkpoint_counts row k has))) in
        let q : Place = mark reader ruler (spacing * k) text in
        let s : same (take (width * suc n) (drop (width * k) row)) (rows text k (suc n))
        ≡ same (four_counts (checkpoint row k)) (four_counts q) && same (take (width * n) (drop (width * suc k) row)) (rows text (suc k) n)
        = ap (λ (l : List ℕ). same l (rows text k (suc n))) t
        ∙ same_append (four_counts (checkpoint row k)) (four_counts q) (take (width * n) (drop (width * suc k) row)) (rows text (suc k) n) refl in
        a.left ∙ ap (λ (i : ℕ). same (take (width * i) (drop (width * k) row)) (rows text k i)) e ∙ s

    module _ (q : Place) (found : q ≡ mark reader ruler (spacing * k) text) where
      pub audited-no : same (four_counts (checkpoint row k)) (four_counts q) ≡ false → false ≡ audit_says text row
      audited-no e = rw (turn, ← found, e)

      pub audited-next : same (four_counts (checkpoint row k)) (four_counts q) ≡ true → Audited text row (suc k) q
      audited-next e = record {
        within = a.within;
        room = a.room;
        upto = more;
        place = rw found (mark-place reader ruler text (spacing * k));
        before = rw found (omega (arith, mark-le reader measured text (spacing * k)));
        left = turn ∙ rw (← found, e);
      }
