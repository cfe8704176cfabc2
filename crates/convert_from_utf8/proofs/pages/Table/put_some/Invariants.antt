-- The places that are stored are the form of what is passed; and the page can hold the rest.
use Prim.Native.Nat.{◌-◌}
use lib.ListN.{length, drop}
use Rattle.terms.proofs.WalkWrites.{Wrote}
use Rattle.utf8.specs.Scalar.{utf8}
use Rattle.page.specs.Paged.{paged}
use Rattle.convert_from_utf8.specs.Inside.Held.{Fits}
use Rattle.convert_from_utf8.proofs.pages.Table.put_some.Given as goal

abbrev pub invariant-loop-at : goal.invariant-loop-at
invariant-loop-at l = Wrote utf8 (paged l.self.numbers) l.text l.initial.out l.out l.at l.put × Fits l.self.numbers (drop l.at l.text)

abbrev pub decreases-loop-at : goal.decreases-loop-at
decreases-loop-at l = length l.text - l.at
