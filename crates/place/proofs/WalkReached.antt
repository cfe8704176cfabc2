-- What a walk over the places of a text has reached, and the refusals before it.
use Rattle.std.proofs.Common.{◌≡◌, ℕ, ◌+◌, ◌^◌, ◌<◌, ◌≤◌, true, false, ◌&&◌, eqb, leb, List, [], ◌∷◌, length, get_or, drop, refl, sym, ap, ◌∙◌, true≢false, Ok, arith, length-drop, ltb-false, leb-true}
use Rattle.theory.specs.Reader.{Segment, cut}
use Rattle.theory.specs.Tally.{size}
use Rattle.theory.proofs.Cases.{both, split}
use Rattle.terms.specs.Limits.{limit}
use Rattle.terms.specs.Told.{told_refusal, told_checked}
use Rattle.terms.specs.declared.Refusal.{Refusal}
use Rattle.terms.proofs.ToldBack.{no_zero}
use Rattle.place.specs.Measures.{Tag, units_of, lines_of, ruler, reader}
use Rattle.place.specs.Walk.{Roomy, fair, over, going}
use Rattle.place.specs.declared.Place.{Place}
use Rattle.place.proofs.MeasuresRise.{one_or_none}
use Rattle.place.proofs.OneStep.{Taken}

-- THE WAY: F of the whole text is F of the rest at the place that is reached
pub record Reached {X : Type 0} (F : Place → List (Segment Tag) → X) (from : Place) (text : List ℕ) (at : ℕ) (p : Place) : Type 0 where
  pub inside : at ≤ length text
  pub bytes-are : p.bytes ≡ from.bytes + at
  pub roomy : Roomy p (drop at text)
  pub same : F from (cut reader text) ≡ F p (cut reader (drop at text))

pub reached-start : {X : Type 0} (F : Place → List (Segment Tag) → X) {from : Place} {text : List ℕ} → Roomy from text → Reached F from text 0 from
reached-start F r = record { inside = omega arith; bytes-are = omega arith; roomy = r; same = refl }

module _ {X : Type 0} {F : Place → List (Segment Tag) → X} {from : Place} {text : List ℕ} {at : ℕ} {p : Place} (r : Reached F from text at p) where
  pub reached-next : {at' : ℕ} {q : Place} (t : Taken text at p q) → q.bytes ≡ from.bytes + at'
      → ((ss : List (Segment Tag)) → F p (t.segment ∷ ss) ≡ F q ss) → Reached F from text at' q
  reached-next {at'} {q} t e f =
      let s = t.segment in
      let u : q.units ≡ p.units + units_of s = ap (λ (r : Place). r.units) t.place in
      let c : q.points ≡ p.points + 1 = ap (λ (r : Place). r.points) t.place in
      let l : q.lines ≡ p.lines + lines_of s = ap (λ (r : Place). r.lines) t.place in
      let n : at' ≡ at + size s = omega (arith, r.bytes-are, t.bytes-are) in
      let left : length (drop at text) ≡ size s + length (drop at' text) = omega (arith, t.inside, length-drop at text, length-drop at' text) in
      record {
        inside = omega (arith, t.inside);
        bytes-are = e;
        roomy = record {
          bytes = omega (arith, r.roomy.bytes, t.bytes-are);
          units = omega (arith, r.roomy.units, t.units);
          points = omega (arith, r.roomy.points);
          lines = omega (arith, r.roomy.lines, one_or_none s);
        };
        same = r.same ∙ rw (t.cuts, f, n);
      }

-- from the start of a text no count can go past the largest number, as the text's length does not
pub start-roomy : (text : List ℕ) → length text < 2 ^ 64 → Roomy ruler.zeroth text
start-roomy text h = record { bytes = omega arith; units = omega arith; points = omega arith; lines = omega arith }

-- ---- from any place on: the refusals, and that no count can go past the largest number after them

module _ (from : Place) (text granted : List ℕ) where
  pub going-over : over from (length text) ≡ true → 2 ∷ [] ≡ going from text granted
  going-over e = rw e

  pub going-unfair : over from (length text) ≡ false → fair from ≡ false → 8 ∷ [] ≡ going from text granted
  going-unfair e f = rw (e, f)

  pub going_on : over from (length text) ≡ false → fair from ≡ true → going from text granted ≡ granted
  going_on e f = rw (e, f)

  -- what was refused before is refused alike
  pub going-refused : (r : Refusal) → told_refusal r ≡ going from text (0 ∷ []) → told_refusal r ≡ going from text granted
  going-refused r e = split (over from (length text))
      (λ o. let g : told_refusal r ≡ 2 ∷ [] = rw o at e in rw o g)
      (λ o. split (fair from)
      (λ f.
      let g : told_refusal r ≡ 0 ∷ [] = rw (o, f) at e in
      absurd (true≢false (sym (ap (λ (l : List ℕ). eqb (get_or l 0 0) 0) g) ∙ no_zero r)))
      (λ f. let g : told_refusal r ≡ 8 ∷ [] = rw (o, f) at e in rw (o, f) g))

-- what was granted passed both tests
pub going-granted : (from : Place) (text : List ℕ) → told_checked (Ok tt) ≡ going from text (0 ∷ [])
    → (over from (length text) ≡ false) × (fair from ≡ true)
going-granted from text e = split (over from (length text))
    (λ o. let g : 0 ∷ [] ≡ 2 ∷ [] = rw o at e in let z : ◌≡◌ {A = ℕ} 0 2 = cc in absurd (omega arith))
    (λ o. split (fair from)
    (λ f. (o, f))
    (λ f. let g : 0 ∷ [] ≡ 8 ∷ [] = rw (o, f) at e in let z : ◌≡◌ {A = ℕ} 0 8 = cc in absurd (omega arith)))

pub going-roomy : (from : Place) (text : List ℕ) → over from (length text) ≡ false → fair from ≡ true → Roomy from text
going-roomy from text e f =
    let l = both (leb from.units limit && leb from.points limit) (leb from.lines limit) f in
    let u = both (leb from.units limit) (leb from.points limit) l.0 in
    let b : from.bytes + length text ≤ limit = ltb-false limit (from.bytes + length text) e in
    let bu : from.units ≤ limit = leb-true from.units limit u.0 in
    let bc : from.points ≤ limit = leb-true from.points limit u.1 in
    let bl : from.lines ≤ limit = leb-true from.lines limit l.1 in
    record { bytes = omega arith; units = omega arith; points = omega arith; lines = omega arith }
