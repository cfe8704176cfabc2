-- The passes made so far are one, and at the end it is the whole.
use mathlib.Core.Path.{subst}
use Prim.Native.Nat.{ℕ, ◌+◌, ◌≤◌}
use mathlib.Core.List.{List}
use lib.ListN.{length}
use native.Mathlib.Omega.{arith}
use borrow.Author.Rules.{rules}
use Rattle.utf8.specs.Scalar.{utf8}
use Rattle.utf16.specs.Scalar.{utf16}
use Rattle.convert_point.specs.declared.Target.TheVariants.{Bytes, Units}
use Rattle.convert_point.specs.Inside.Passes.{Passes}
use Rattle.convert_point.proofs.Enough.{text_few}
use Rattle.convert_point.proofs.WalkInPasses.{Passed, passed-few, passed-pass, passed-end}
use Rattle.convert_point.proofs.RestOfText.{come, rest-inside, come_on, rest-on}
use Rattle.convert_from_utf16.proofs.need_bytes.Goals.{After-count_part-p}
use Rattle.convert_from_utf16.proofs.need_bytes.Goals as goal

-- one pass more
after : (c : After-count_part-p)
    → Passed utf16 utf8 c.args.text.now (come c.args.text.now c.loop-rest.rest.now + c.count_part-p.result.read) (c.loop-rest.total + c.count_part-p.result.places)
after c =
    let l = c.loop-rest in
    let p = c.count_part-p in
    passed-pass utf16 utf8 c.args.text.now (come c.args.text.now l.rest.now) l.total l.invariant.0 _ _
    (subst (λ (t : List ℕ). Passes utf16 utf8 t p.result.read p.result.places) l.invariant.1 p.ensures)

pub overflow_add-total : goal.overflow_add-total
overflow_add-total c =
    let t = c.args.text.now in
    omega (arith, passed-few utf16 utf8 t _ _ (after (goal.at.overflow_add-total c).After-count_part-p), text_few Units Bytes t, c.requires)

pub loop-rest-preserved : goal.loop-rest-preserved
loop-rest-preserved c =
    let text = c.args.text.now in
    let rest = c.loop-rest.rest.now in
    let r = c.loop-rest.invariant.1 in
    let n = c.count_part-p.result.read in
    let a = after (goal.at.loop-rest-preserved c).After-count_part-p in
    (rw (come_on text rest r n a.inside) a, rest-on text rest r n a.inside)

pub returns : goal.returns
returns c =
    let l = c.loop-rest in
    let text = c.args.text.now in
    let rest = l.rest.now in
    let none : length rest ≤ 0 = search rules in
    passed-end utf16 utf8 text (come text rest) l.total l.invariant.0 (omega (arith, none, rest-inside text rest l.invariant.1))
