-- What is written, and what the rest of the text writes, is the form.
use mathlib.Core.Path.{sym, ◌∙◌}
use Prim.Native.Nat.{◌≤◌}
use lib.ListN.{length}
use native.Mathlib.Omega.{arith}
use borrow.Author.Rules.{rules}
use Rattle.terms.specs.Form.{converted}
use Rattle.terms.proofs.WalkWrites.{Met, wrote-end}
use Rattle.convert_point.specs.Target.{form_of}
use Rattle.convert_point.proofs.Enough.{faithful}
use Rattle.convert_point.proofs.NumbersOfParts.{numbers-lent, numbers-back, puts-lent}
use Rattle.convert_point.proofs.PointWritten.{wrote-put}
use Rattle.convert_point.proofs.RestOfText.{come, rest-inside, rest-end, met_rest, come_on, rest-on}
use Rattle.convert_point.proofs.whole.write.Given.{Over}
use Rattle.convert_point.proofs.whole.write.Goals.{In-Some}
use Rattle.convert_point.proofs.whole.write.Goals as goal

-- the code point that was read
here : (g : Over) (c : In-Some g) → let s = g.S.Element in let text = s.numbers c.args.text.now in
    Met (form_of s.target) text (come text (s.numbers c.loop-p.rest.now)) c.in-Some.p.size c.in-Some.p.number
here g c =
    let s = g.S.Element in
    met_rest (s.numbers c.args.text.now) (s.numbers c.loop-p.rest.now) c.loop-p.invariant.1 (faithful s.target) c.in-Some.p
    (sym c.in-Some.is ∙ c.point.ensures)

-- it lies in the rest of the text
inside : (g : Over) (c : In-Some g) → c.in-Some.p.size ≤ length c.loop-p.rest.now
inside g c =
    let s = g.S.Element in
    let m = here g c in
    omega (arith, m.inside, rest-inside (s.numbers c.args.text.now) (s.numbers c.loop-p.rest.now) c.loop-p.invariant.1, g.met.S.Element.laws.long c.loop-p.rest.now)

pub offset_bounds-rest-p : goal.offset_bounds-rest-p
offset_bounds-rest-p g c = inside g (goal.at.offset_bounds-rest-p g c).In-Some

pub slice_bounds-rest-count : goal.slice_bounds-rest-count
slice_bounds-rest-count g c = inside g (goal.at.slice_bounds-rest-count g c).In-Some

pub slice_bounds-rest-start : goal.slice_bounds-rest-start
slice_bounds-rest-start g c = let i = inside g (goal.at.slice_bounds-rest-start g c).In-Some in search rules

pub loop-p-preserved : goal.loop-p-preserved
loop-p-preserved g c =
    let s = g.S.Element in
    let t = g.T.Element in
    let l = c.loop-p in
    let text = s.numbers c.args.text.now in
    let rest = s.numbers l.rest.now in
    let out = t.numbers l.out in
    let r = l.invariant.1 in
    let p = c.in-Some.p in
    let m = here g (goal.at.loop-p-preserved g c).In-Some in
    let e = numbers-lent g.met.S.Element.laws l.rest.now p.size in
    let T = g.met.T.Element.laws in
    let room : length (converted (form_of s.target) (form_of t.target) text) ≤ length (t.numbers c.args.out.now) = rw T.long c.requires in
    let puts = puts-lent T (form_of t.target) p.number l.out l.done (t.numbers c.put-done.new.out) c.put-done.result c.put-done.ensures in (
      rw (e, come_on text rest r p.size m.inside, numbers-back T l.out l.done c.put-done.new.out)
          (wrote-put (form_of s.target) (form_of t.target) text (t.numbers c.args.out.now) out (come text rest) l.done l.invariant.0 room _ _ m
          (t.numbers c.put-done.new.out) c.put-done.result puts),
      rw e (rest-on text rest r p.size m.inside),
    )

pub returns : goal.returns
returns g c =
    let s = g.S.Element in
    let t = g.T.Element in
    let l = c.loop-p in
    let text = s.numbers c.args.text.now in
    let rest = s.numbers l.rest.now in
    let e = wrote-end (form_of s.target) (form_of t.target) text (t.numbers c.args.out.now) (t.numbers l.out) (come text rest) l.done l.invariant.0
    (rest-end text rest l.invariant.1 (form_of s.target) (sym c.in_default.is ∙ c.point.ensures)) in
    record { count = e.0; output = e.1 }
