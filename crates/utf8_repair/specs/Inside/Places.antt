-- How many bytes a segment has in repaired form.
use Rattle.std.specs.Prelude.{ℕ, length}
use Rattle.terms.specs.Form.{replacement}
use Rattle.terms.specs.declared.First.{First}
use Rattle.terms.specs.declared.First.TheVariants.{Nothing, Whole, Damage, Begun}
use Rattle.utf8.specs.Scalar.{sequence}

-- a whole one as many as it has, a damage those of U+FFFD
abbrev pub places_of : First → ℕ
places_of Nothing = 0
places_of (Whole n) = n
places_of (Damage n cause) = length (sequence replacement)
places_of (Begun n) = length (sequence replacement)
