-- What a lookup tells loses nothing: two answers that tell the same are equal.
use Rattle.std.proofs.Common.{◌≡◌, ℕ, List, get_or, drop, refl}
use Rattle.std.specs.Prelude.{Result}
use Rattle.terms.specs.declared.Refusal.{Refusal}
use Rattle.terms.proofs.ToldBack.{by-back, told_lem}
use Rattle.place.specs.Measures.{place}
use Rattle.place.specs.Lookup.{four_counts, told_placed}
use Rattle.place.specs.declared.Place.{Place}

-- a place is known by its counts
abbrev back_place : List ℕ → Place
back_place l = place (get_or l 0 0) (get_or l 1 0) (get_or l 2 0) (get_or l 3 0)

pub told_counts : (p q : Place) → four_counts p ≡ four_counts q → p ≡ q
told_counts = by-back four_counts back_place (λ p. refl)

pub told-placed : (a b : Result Place Refusal) → told_placed a ≡ told_placed b → a ≡ b
told-placed = told_lem four_counts (λ l. back_place (drop 1 l)) (λ p. refl)
