-- What is written, and what the rest of the text writes, is the form.
use mathlib.Core.Path.{sym, ◌∙◌, subst}
use Prim.Native.Nat.{ℕ, ◌+◌, ◌≤◌}
use mathlib.Core.List.{List}
use lib.ListN.{length}
use native.Mathlib.Omega.{arith}
use borrow.Author.Rules.{rules}
use Rattle.terms.proofs.WalkBySegments.{part_is}
use Rattle.terms.proofs.WalkWrites.{lent, wrote-end}
use Rattle.utf16.specs.Scalar.{utf16}
use Rattle.utf8.specs.Scalar.{utf8}
use Rattle.convert_point.specs.Inside.Passes.{PassesTo}
use Rattle.convert_point.proofs.WalkInPasses.{wrote-pass}
use Rattle.convert_point.proofs.RestOfText.{come, rest-inside, come_on, rest-on}
use Rattle.convert_from_utf16.proofs.write_bytes.Goals as goal

pub loop-rest-preserved : goal.loop-rest-preserved
loop-rest-preserved c =
    let l = c.loop-rest in
    let text = c.args.text.now in
    let rest = l.rest.now in
    let r = l.invariant.1 in
    let p = c.write_part-p in
    let q = subst (λ (t : List ℕ). PassesTo utf16 utf8 t (lent l.out l.done) p.new.out p.result.read p.result.places)
    (r ∙ sym (part_is text (come text rest))) p.ensures in
    let h : come text rest + p.result.read ≤ length text = omega (arith, p.ensures.passes.inside, rest-inside text rest r) in (
      rw (come_on text rest r p.result.read h)
          (wrote-pass utf16 utf8 text c.args.out.now l.out (come text rest) l.done l.invariant.0 c.requires p.new.out p.result.read p.result.places q),
      rest-on text rest r p.result.read h,
    )

pub returns : goal.returns
returns c =
    let l = c.loop-rest in
    let text = c.args.text.now in
    let rest = l.rest.now in
    let none : length rest ≤ 0 = search rules in
    let e = wrote-end utf16 utf8 text c.args.out.now l.out (come text rest) l.done l.invariant.0 (omega (arith, none, rest-inside text rest l.invariant.1)) in
    record { count = e.0; output = e.1 }
