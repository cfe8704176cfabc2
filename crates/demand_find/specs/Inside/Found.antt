-- An offset at which a lookup by bytes grants a place.
use Rattle.std.specs.Prelude.{◌≡◌, List, ◌∷◌, ℕ}
use Rattle.place.specs.Lookup.{four_counts, lookup_says}
use Rattle.place.specs.declared.Place.{Place}

pub record IsPlace (text : List ℕ) (offset : ℕ) : Type 0 where
  pub place : Place
  pub granted : lookup_says (λ p. p.bytes) offset text ≡ 0 ∷ four_counts place
