-- `units_of` meets its contract: its test is the definition's.
use Rattle.std.proofs.Common.{eq-eqb, ne_eqb}
use Rattle.place.proofs.units_of.Goals as goal

pub returns-then-size-eq4 : goal.returns-then-size-eq4
returns-then-size-eq4 c = rw (eq-eqb c.args.size 4 c.if-size-eq4.true)

pub returns-else-size-eq4 : goal.returns-else-size-eq4
returns-else-size-eq4 c = rw (ne_eqb c.args.size 4 c.if-size-eq4.false)
