-- The passes made so far are one, and at the end it is the whole.
use lib.ListN.{length}
use Rattle.utf8.specs.Scalar.{utf8}
use Rattle.utf16.specs.Scalar.{utf16}
use Rattle.convert_point.proofs.WalkInPasses.{Passed}
use Rattle.convert_point.proofs.RestOfText.{come, Rest}
use Rattle.convert_from_utf16.proofs.need_bytes.Given as goal

abbrev pub invariant-loop-rest : goal.invariant-loop-rest
invariant-loop-rest l = Passed utf16 utf8 l.text (come l.text l.rest) l.total × Rest l.text l.rest

abbrev pub decreases-loop-rest : goal.decreases-loop-rest
decreases-loop-rest l = length l.rest
