-- The room that is enough: the most places that a text of so many elements can need in a form.
use Rattle.std.specs.Prelude.{ℕ, ◌*◌, cond, ltb}
use Rattle.terms.specs.Limits.{limit}
use Rattle.convert_point.specs.declared.Target.{Target}
use Rattle.convert_point.specs.declared.Target.TheVariants.{Bytes, Units, Points}

-- the most places that one element of the first form takes in the second, U+FFFD for damage
abbrev pub places_each : Target → Target → ℕ
places_each Bytes Bytes = 3
places_each Bytes Units = 1
places_each Bytes Points = 1
places_each Units Bytes = 3
places_each Units Units = 1
places_each Units Points = 1
places_each Points Bytes = 4
places_each Points Units = 2
places_each Points Points = 1

-- so much for each element; a text over the limit is refused, so no more than the limit counts
abbrev pub most_of : Target → Target → ℕ → ℕ
most_of from to n = places_each from to * cond (ltb limit n) limit n
