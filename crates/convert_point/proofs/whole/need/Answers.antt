-- What is counted, and what the rest of the text takes, is the need.
use mathlib.Core.Path.{sym, ◌∙◌}
use native.Mathlib.Omega.{arith}
use Rattle.terms.proofs.WalkWrites.{counted_next, counted-end}
use Rattle.convert_point.specs.Target.{form_of}
use Rattle.convert_point.proofs.FourAtMost.{at-most-four}
use Rattle.convert_point.proofs.Enough.{faithful}
use Rattle.convert_point.proofs.NumbersOfParts.{numbers-lent}
use Rattle.convert_point.proofs.RestOfText.{come, rest-end, met_rest, come_on, rest-on}
use Rattle.convert_point.proofs.whole.need.Goals as goal

pub loop-p-preserved : goal.loop-p-preserved
loop-p-preserved g c =
    let s = g.S.Element in
    let to = g.T.Element.target in
    let l = c.loop-p in
    let text = s.numbers c.args.text.now in
    let rest = s.numbers l.rest.now in
    let r = l.invariant.2 in
    let p = c.in-Some.p in
    let m = met_rest text rest r (faithful s.target) p (sym c.in-Some.is ∙ c.point.ensures) in
    let e = numbers-lent g.met.S.Element.laws l.rest.now p.size in (
      rw (e, come_on text rest r p.size m.inside, c.places-total.ensures)
          (counted_next (form_of s.target) (form_of to) text (come text rest) l.total _ _ l.invariant.0 m),
      rw e (omega (arith, come_on text rest r p.size m.inside, l.invariant.1, c.places-total.ensures, at-most-four to p.number, m.some)),
      rw e (rest-on text rest r p.size m.inside),
    )

pub returns : goal.returns
returns g c =
    let s = g.S.Element in
    let l = c.loop-p in
    let text = s.numbers c.args.text.now in
    let rest = s.numbers l.rest.now in
    counted-end (form_of s.target) (form_of g.T.Element.target) text (come text rest) l.total l.invariant.0
    (rest-end text rest l.invariant.2 (form_of s.target) (sym c.in_default.is ∙ c.point.ensures))
