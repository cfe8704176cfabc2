-- What is written, and what the rest of the text writes, is the form.
use lib.ListN.{length}
use Rattle.terms.proofs.WalkWrites.{Wrote}
use Rattle.convert_point.specs.Target.{form_of}
use Rattle.convert_point.proofs.RestOfText.{come, Rest}
use Rattle.convert_point.proofs.whole.write.Given as goal

abbrev pub invariant-loop-p : goal.invariant-loop-p
invariant-loop-p g l =
    let s = g.S.Element in
    let t = g.T.Element in
    Wrote (form_of s.target) (form_of t.target) (s.numbers l.text) (t.numbers l.initial.out) (t.numbers l.out)
    (come (s.numbers l.text) (s.numbers l.rest)) l.done
    × Rest (s.numbers l.text) (s.numbers l.rest)

abbrev pub decreases-loop-p : goal.decreases-loop-p
decreases-loop-p g l = length l.rest
