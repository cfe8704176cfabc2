-- The checks before a call: whether a state may take it.
use Rattle.std.specs.Prelude.{ℕ, ◌*◌, Bool, cond, List, [], ◌∷◌, ltb}
use Rattle.terms.specs.Limits.{entry_width}
use Rattle.terms.specs.Checks.{tested}
use Rattle.decoder_shared.specs.Decoding.{Decoding}

-- THE CHECKS before a call that brings so many elements and lends a list of so many numbers, of a state that passes its tests or not, has
-- taken so many elements and has such a room: refusal 8, 2, 7 in this order; then what the call says
abbrev pub checked : Bool → ℕ → ℕ → ℕ → ℕ → List ℕ → List ℕ
checked sound taken room more row says = tested sound taken more (cond (ltb row (entry_width * room)) (7 ∷ []) says)

-- what they tell by themselves
abbrev pub checks : Bool → ℕ → ℕ → ℕ → ℕ → List ℕ
checks sound taken room more row = checked sound taken room more row (0 ∷ [])

-- the same of a state of some decoder
module _ {S : Type 0} (D : Decoding S) where
  abbrev pub admitted : S → ℕ → ℕ → List ℕ → List ℕ
  admitted d more row says = checked (D.sound d) (D.stands d).taken (D.stands d).room more row says

  abbrev pub admit_says : S → ℕ → ℕ → List ℕ
  admit_says d more row = admitted d more row (0 ∷ [])
