-- What is written, and what the rest of the text writes, is the form.
use lib.ListN.{length}
use Rattle.terms.proofs.WalkWrites.{Wrote}
use Rattle.utf16.specs.Scalar.{utf16}
use Rattle.utf8.specs.Scalar.{utf8}
use Rattle.convert_point.proofs.RestOfText.{come, Rest}
use Rattle.convert_from_utf16.proofs.write_bytes.Given as goal

abbrev pub invariant-loop-rest : goal.invariant-loop-rest
invariant-loop-rest l = Wrote utf16 utf8 l.text l.initial.out l.out (come l.text l.rest) l.done × Rest l.text l.rest

abbrev pub decreases-loop-rest : goal.decreases-loop-rest
decreases-loop-rest l = length l.rest
