-- Plain lookup, in the numbers of the refusals.
use Rattle.std.specs.Prelude.{ℕ, List, [], ◌∷◌, Result}
use Rattle.theory.specs.Place.{Found, at, inside, past, unusable, plain}
use Rattle.terms.specs.Strict.{limited}
use Rattle.terms.specs.Told.{told}
use Rattle.terms.specs.declared.Refusal.{Refusal}
use Rattle.place.specs.Measures.{ruler, reader}
use Rattle.place.specs.declared.Place.{Place}

-- a place's four counts
abbrev pub four_counts : Place → List ℕ
four_counts p = p.bytes ∷ p.units ∷ p.points ∷ p.lines ∷ []

-- 0 and the four counts of a place, or the refusal's number and value
abbrev pub told_placed : Result Place Refusal → List ℕ
told_placed = told four_counts

abbrev pub found_says : Found Place → List ℕ
found_says (at p) = 0 ∷ four_counts p
found_says past = 4 ∷ []
found_says inside = 5 ∷ []
found_says (unusable k) = 6 ∷ k ∷ []

-- PLAIN LOOKUP: refusal 2, then the place that counts the offset, 5 where it lies inside a segment, 4 past the end
abbrev pub lookup_says : (Place → ℕ) → ℕ → List ℕ → List ℕ
lookup_says measure offset text = limited text (found_says (plain reader ruler measure offset text))
