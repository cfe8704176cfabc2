-- Pending bytes as a state keeps them: so many places as may be pending, of which the unused ones are 0.
use Rattle.std.specs.Prelude.{ℕ, Bool, true, ◌&&◌, List, [], ◌∷◌, ◌++◌, take, eqb}
use Rattle.terms.specs.Limits.{most_pending, unheld}

abbrev pub zeros : List ℕ → Bool
zeros [] = true
zeros (x ∷ xs) = eqb x 0 && zeros xs

abbrev pub padded : List ℕ → List ℕ
padded xs = take most_pending (xs ++ unheld)
