-- The form of a text by its number.
use Rattle.std.specs.Prelude.{ℕ, cond, eqb}
use Rattle.convert_point.specs.declared.Target.{Target}
use Rattle.convert_point.specs.declared.Target.TheVariants.{Bytes, Units, Points}

abbrev pub target_of : ℕ → Target
target_of kind = cond (eqb kind 0) Bytes (cond (eqb kind 1) Units Points)
