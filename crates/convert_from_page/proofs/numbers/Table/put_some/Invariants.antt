-- Each byte but the last leaves a place that its second store may take; the last is put exactly.
use Rattle.convert_from_page.proofs.NumberStored.{Walked}
use Rattle.convert_from_page.proofs.numbers.Table.put_some.Given as goal

abbrev pub invariant-loop-b : goal.invariant-loop-b
invariant-loop-b l = Walked l.self.numbers l.text l.initial.out l.out l.b-index l.done
