-- The bytes that are no later bytes, and those of 0xF0 or more, are as many.
use native.Mathlib.Omega.{arith}
use Rattle.convert_from_utf8.proofs.SumsAreNeeds.{units-sums, sums-few}
use Rattle.convert_from_utf8.proofs.spelling.need.Goals as goal

pub overflow_add-result : goal.overflow_add-result
overflow_add-result c =
    rw c.count-s.ensures (omega (arith, sums-few c.args.text.now c.requires, c.well_formed))

pub returns : goal.returns
returns c =
    rw c.count-s.ensures (units-sums c.args.text.now c.requires)
