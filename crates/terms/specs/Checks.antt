-- The checks before every call of a state that takes a text in pieces.
use Rattle.std.specs.Prelude.{ℕ, ◌+◌, Bool, cond, List, [], ◌∷◌, ltb}
use Rattle.terms.specs.Limits.{limit}

-- refusal 8 unless the state passes its tests, then 2 where what it has taken and so many more are over the limit; then what
-- the call says
abbrev pub tested : Bool → ℕ → ℕ → List ℕ → List ℕ
tested sound taken more says = cond sound (cond (ltb limit (taken + more)) (2 ∷ []) says) (8 ∷ [])
