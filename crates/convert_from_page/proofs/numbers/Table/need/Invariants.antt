-- What is counted, and what the rest takes, is the whole.
use Prim.Native.Nat.{◌*◌, ◌≤◌}
use Rattle.terms.proofs.WalkWrites.{Counted}
use Rattle.utf8.specs.Scalar.{utf8}
use Rattle.page.specs.Paged.{paged}
use Rattle.convert_from_page.proofs.numbers.Table.need.Given as goal

abbrev pub invariant-loop-b : goal.invariant-loop-b
invariant-loop-b l = Counted (paged l.self.numbers) utf8 l.text l.b-index l.total × (l.total ≤ 3 * l.b-index)
