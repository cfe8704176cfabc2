-- The paper's sentences on lookup, about what the calls tell: places are found by their counts, and the answers undo each other.
use Rattle.std.proofs.Common.{◌≡◌, ℕ, ◌<◌, ◌≤◌, ltb, List, [], ◌∷◌, length, ap, arith, ltb-false, le-ltb}
use Rattle.theory.specs.Reader.{cut}
use Rattle.theory.specs.Place.{Found, at, inside, past, unusable, plain}
use Rattle.theory.proofs.Cases.{split}
use Rattle.theory.proofs.PlacesFound.{lookup-place, found-rise, found-mono, PlaceOf, plain-place}
use Rattle.terms.specs.Limits.{limit}
use Rattle.place.specs.Measures.{ruler, reader}
use Rattle.place.specs.Lookup.{four_counts, found_says, lookup_says}
use Rattle.place.specs.declared.Place.{Place}
use Rattle.place.proofs.ToldBack.{told_counts}
use Rattle.place.proofs.MeasuresRise.{Rising, bytes_rise, units_rise, points_rise, lines_never_fall}

-- lookup by a measure tells a place
abbrev pub Finds : (Place → ℕ) → ℕ → List ℕ → Place → Type 0
Finds m o text q = lookup_says m o text ≡ 0 ∷ four_counts q

says_at : (f : Found Place) (q : Place) → found_says f ≡ 0 ∷ four_counts q → f ≡ at q
says_at (at p) q e = ap at (told_counts p q (cc))
says_at inside q e = let z : ◌≡◌ {A = ℕ} 0 1 = cc in absurd (omega arith)
says_at past q e = let z : ◌≡◌ {A = ℕ} 0 1 = cc in absurd (omega arith)
says_at (unusable k) q e = let z : ◌≡◌ {A = ℕ} 0 1 = cc in absurd (omega arith)

module _ (m : Place → ℕ) (o : ℕ) (text : List ℕ) (q : Place) where
  -- it does so exactly if the text is within the limit and the place is found
  pub to-finds : length text ≤ limit → plain reader ruler m o text ≡ at q → Finds m o text q
  to-finds h e = rw (le-ltb limit (length text) h, e)

  pub of-finds : Finds m o text q → (length text ≤ limit) × (plain reader ruler m o text ≡ at q)
  of-finds f = split (ltb limit (length text))
      (λ e. let g : 2 ∷ [] ≡ 0 ∷ four_counts q = rw e at f in let z : ◌≡◌ {A = ℕ} 0 1 = cc in absurd (omega arith))
      (λ e. (ltb-false limit (length text) e, says_at (plain reader ruler m o text) q (rw e at f)))

  -- what is found is a place of the text
  pub finds-place : Finds m o text q → PlaceOf reader ruler text q
  finds-place f = plain-place reader ruler text m o q (of-finds f).1

-- EVERY PLACE IS FOUND by its count of bytes, of units and of code points
pub place_finds : (m : Place → ℕ) → Rising m → (text : List ℕ) → length text ≤ limit → (q : Place) → PlaceOf reader ruler text q → Finds m (m q) text q
place_finds m r text h q b = to-finds m (m q) text q h (lookup-place ruler.step m r.rises b)

-- THE ANSWERS UNDO EACH OTHER: a place that is found by any measure is found by its bytes, its units and its code points
pub finds_undo : (m n : Place → ℕ) → Rising n → (o : ℕ) (text : List ℕ) (q : Place) → Finds m o text q → Finds n (n q) text q
finds_undo m n r o text q f = place_finds n r text (of-finds m o text q f).0 q (finds-place m o text q f)

-- r lies behind q: bytes, units and code points are more, and lines are not fewer
pub record Behind (q r : Place) : Type 0 where
  pub bytes : q.bytes < r.bytes
  pub units : q.units < r.units
  pub points : q.points < r.points
  pub lines : q.lines ≤ r.lines

-- THE ANSWERS RISE WITH THE OFFSET, by any of the four measures
pub finds_rise : (m : Place → ℕ) (o o' : ℕ) → o < o' → (text : List ℕ) (q r : Place) → Finds m o text q → Finds m o' text r → Behind q r
finds_rise m o o' less text q r f g = record {
  bytes = up (λ p. p.bytes) bytes_rise;
  units = up (λ p. p.units) units_rise;
  points = up (λ p. p.points) points_rise;
  lines = found-mono ruler.step m o o' less ruler.zeroth (cut reader text) q r e.1 e'.1 (λ p. p.lines) lines_never_fall;
}
  where
    e : (length text ≤ limit) × (plain reader ruler m o text ≡ at q)
    e = of-finds m o text q f

    e' : (length text ≤ limit) × (plain reader ruler m o' text ≡ at r)
    e' = of-finds m o' text r g

    up : (n : Place → ℕ) → Rising n → n q < n r
    up n s = found-rise ruler.step m o o' less ruler.zeroth (cut reader text) q r e.1 e'.1 n s.rises
