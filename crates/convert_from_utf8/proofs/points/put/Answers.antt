-- What is written, and what the rest of the text writes, is the form; and the rest has no damage.
use mathlib.Core.Path.{ap, ◌∙◌}
use Prim.Native.Nat.{◌+◌}
use lib.ListN.{length, length-drop}
use native.Mathlib.Omega.{arith}
use Rattle.terms.proofs.WalkBySegments.{part_is}
use Rattle.terms.proofs.WalkWrites.{back, Wrote, wrote-start, wrote-end}
use Rattle.utf8.specs.Scalar.{utf8}
use Rattle.code_points.specs.Points.{code_points}
use Rattle.convert_point.proofs.WalkInPasses.{rest-room, wrote-pass}
use Rattle.convert_from_utf8.proofs.StepsWalk.{behind-step}
use Rattle.convert_from_utf8.proofs.points.put.Goals.{After-step-s}
use Rattle.convert_from_utf8.proofs.points.put.Goals as goal

pub loop-at-init : goal.loop-at-init
loop-at-init c = (wrote-start utf8 code_points c.args.text.now c.args.out.now, c.requires.text_value)

pub step-s-requires : goal.step-s-requires
step-s-requires c =
    let t = c.args.text.now in
    let at = c.loop-at.at in
    record {
      text_nonzero = (omega (arith, ap length (part_is t at) ∙ length-drop at t, c.loop-at-test.true), rw (part_is t at) c.loop-at.invariant.1);
      text_in_bounds = rest-room utf8 code_points t c.args.out.now c.loop-at.out at c.loop-at.done c.loop-at.invariant.0 c.requires.text_in_bounds;
    }

-- what is written then
after : (c : After-step-s)
    → let a = c.args in
    Wrote utf8 code_points a.text.now a.out.now (back c.loop-at.out c.loop-at.done c.step-s.new.out)
    (c.loop-at.at + c.step-s.result.passed) (c.loop-at.done + c.step-s.result.put)
after c =
    wrote-pass utf8 code_points c.args.text.now c.args.out.now c.loop-at.out c.loop-at.at c.loop-at.done c.loop-at.invariant.0 c.requires.text_in_bounds
    c.step-s.new.out _ _ c.step-s.ensures.passes

pub overflow_add-at : goal.overflow_add-at
overflow_add-at c =
    let w = after (goal.at.overflow_add-at c).After-step-s in
    omega (arith, w.inside, c.well_formed)

pub overflow_add-done : goal.overflow_add-done
overflow_add-done c =
    let w = after (goal.at.overflow_add-done c).After-step-s in
    omega (arith, w.within, c.well_formed)

pub loop-at-smaller : goal.loop-at-smaller
loop-at-smaller c =
    let w = after (goal.at.loop-at-smaller c).After-step-s in
    omega (arith, w.inside, c.step-s.ensures.passes.passes.some)

pub loop-at-preserved : goal.loop-at-preserved
loop-at-preserved c =
    (after (goal.at.loop-at-preserved c).After-step-s, behind-step c.args.text.now c.loop-at.at _ _ _ _ c.step-s.ensures)

pub shape_of-out : goal.shape_of-out
shape_of-out c = c.loop-at.invariant.0.long

pub returns : goal.returns
returns c =
    let a = c.args in
    let e = wrote-end utf8 code_points a.text.now a.out.now c.loop-at.out c.loop-at.at c.loop-at.done c.loop-at.invariant.0 c.loop-at-test.false in
    record { count = e.0; output = e.1 }
