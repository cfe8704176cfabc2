-- What is counted, and what the rest of the text takes, is the need.
use Prim.Native.Nat.{◌*◌, ◌≤◌}
use lib.ListN.{length}
use Rattle.terms.proofs.WalkWrites.{Counted}
use Rattle.convert_point.specs.Target.{form_of}
use Rattle.convert_point.proofs.RestOfText.{come, Rest}
use Rattle.convert_point.proofs.whole.need.Given as goal

abbrev pub invariant-loop-p : goal.invariant-loop-p
invariant-loop-p g l =
    let s = g.S.Element in
    Counted (form_of s.target) (form_of g.T.Element.target) (s.numbers l.text) (come (s.numbers l.text) (s.numbers l.rest)) l.total
    × (l.total ≤ 4 * come (s.numbers l.text) (s.numbers l.rest))
    × Rest (s.numbers l.text) (s.numbers l.rest)

abbrev pub decreases-loop-p : goal.decreases-loop-p
decreases-loop-p g l = length l.rest
