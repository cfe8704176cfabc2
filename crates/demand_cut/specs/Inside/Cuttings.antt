-- What cutting at a place asks.
use Rattle.std.specs.Prelude.{◌≡◌, ℕ, List, ◌∷◌, Result, Ok}
use Rattle.place.specs.Lookup.{four_counts, lookup_says}
use Rattle.place.specs.declared.Place.{Place}
use Rattle.terms.specs.declared.Refusal.{Refusal}

-- a place of the text, found by its bytes
abbrev pub IsPlace : List ℕ → Place → Type 0
IsPlace text p = lookup_says (λ q. q.bytes) p.bytes text ≡ 0 ∷ four_counts p

-- what a lookup found is one, unless it was refused
abbrev pub FoundIn : List ℕ → Result Place Refusal → Type 0
FoundIn text r = (p : Place) → r ≡ Ok p → IsPlace text p
