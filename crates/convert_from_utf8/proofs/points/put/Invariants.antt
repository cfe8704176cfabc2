-- What is written, and what the rest of the text writes, is the form; and the rest has no damage.
use mathlib.Core.Path.{◌≡◌}
use Prim.Native.Nat.{◌-◌}
use mathlib.Core.List.{[]}
use lib.ListN.{length, drop}
use Rattle.terms.specs.Strict.{damages}
use Rattle.terms.proofs.WalkWrites.{Wrote}
use Rattle.utf8.specs.Bytes.{bytes}
use Rattle.utf8.specs.Scalar.{utf8}
use Rattle.code_points.specs.Points.{code_points}
use Rattle.convert_from_utf8.proofs.points.put.Given as goal

abbrev pub invariant-loop-at : goal.invariant-loop-at
invariant-loop-at l = Wrote utf8 code_points l.text l.initial.out l.out l.at l.done × (damages bytes (drop l.at l.text) ≡ [])

abbrev pub decreases-loop-at : goal.decreases-loop-at
decreases-loop-at l = length l.text - l.at
