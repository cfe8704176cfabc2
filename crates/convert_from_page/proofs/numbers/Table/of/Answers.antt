-- The three pages keep the bytes below 0x80, and their numbers are units.
use Rattle.page.proofs.ThreePages.{page_keeps}
use Rattle.convert_from_page.proofs.UnitsOfPages.{are_units}
use Rattle.convert_from_page.proofs.numbers.Table.of.Goals as goal

pub invariant_of-result-clause-keeps : goal.invariant_of-result-clause-keeps
invariant_of-result-clause-keeps c = rw c.numbers.ensures (page_keeps c.args.page)

pub invariant_of-result-clause-are_units : goal.invariant_of-result-clause-are_units
invariant_of-result-clause-are_units c = rw c.numbers.ensures (are_units c.args.page)
