-- What is written, and what the rest of the text writes, is the form.
use Prim.Native.Nat.{◌-◌}
use lib.ListN.{length}
use Rattle.terms.proofs.WalkWrites.{Wrote}
use Rattle.utf8.specs.Scalar.{utf8}
use Rattle.page.specs.Paged.{paged}
use Rattle.convert_from_page.proofs.numbers.Table.put.Given as goal

abbrev pub invariant-loop-at : goal.invariant-loop-at
invariant-loop-at l = Wrote (paged l.self.numbers) utf8 l.text l.initial.out l.out l.at l.done

abbrev pub decreases-loop-at : goal.decreases-loop-at
decreases-loop-at l = length l.text - l.at
