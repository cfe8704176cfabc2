-- What is written, and what the rest of the text writes, is the form.
use mathlib.Core.Path.{ap, ◌∙◌}
use Prim.Native.Nat.{◌+◌}
use lib.ListN.{length, length-drop}
use native.Mathlib.Omega.{arith}
use Rattle.terms.proofs.WalkBySegments.{part_is}
use Rattle.terms.proofs.WalkWrites.{back, Wrote, wrote-start, wrote-end}
use Rattle.utf8.specs.Scalar.{utf8}
use Rattle.page.specs.Paged.{paged}
use Rattle.convert_point.proofs.WalkInPasses.{rest-room, wrote-pass}
use Rattle.convert_from_page.proofs.numbers.Table.put.Goals.{After-stride-s}
use Rattle.convert_from_page.proofs.numbers.Table.put.Goals as goal

pub loop-at-init : goal.loop-at-init
loop-at-init c = let a = c.args in wrote-start (paged a.self.now.numbers) utf8 a.text.now a.out.now

pub stride-s-requires : goal.stride-s-requires
stride-s-requires c =
    let t = c.args.text.now in
    let at = c.loop-at.at in
    record {
      text_nonzero = omega (arith, ap length (part_is t at) ∙ length-drop at t, c.loop-at-test.true);
      text_in_bounds = rest-room (paged c.args.self.now.numbers) utf8 t c.args.out.now c.loop-at.out at c.loop-at.done c.loop-at.invariant c.requires.text_in_bounds;
    }

-- what is written then
after : (c : After-stride-s)
    → let a = c.args in
    Wrote (paged a.self.now.numbers) utf8 a.text.now a.out.now (back c.loop-at.out c.loop-at.done c.stride-s.new.out)
    (c.loop-at.at + c.stride-s.result.passed) (c.loop-at.done + c.stride-s.result.put)
after c =
    wrote-pass (paged c.args.self.now.numbers) utf8 c.args.text.now c.args.out.now c.loop-at.out c.loop-at.at c.loop-at.done c.loop-at.invariant c.requires.text_in_bounds
    c.stride-s.new.out _ _ c.stride-s.ensures

pub overflow_add-at : goal.overflow_add-at
overflow_add-at c =
    omega (arith, (after (goal.at.overflow_add-at c).After-stride-s).inside, c.well_formed)

pub overflow_add-done : goal.overflow_add-done
overflow_add-done c =
    omega (arith, (after (goal.at.overflow_add-done c).After-stride-s).within, c.well_formed)

pub loop-at-smaller : goal.loop-at-smaller
loop-at-smaller c =
    omega (arith, (after (goal.at.loop-at-smaller c).After-stride-s).inside, c.stride-s.ensures.passes.some)

pub loop-at-preserved : goal.loop-at-preserved
loop-at-preserved c = after (goal.at.loop-at-preserved c).After-stride-s

pub shape_of-out : goal.shape_of-out
shape_of-out c = c.loop-at.invariant.long

pub returns : goal.returns
returns c =
    let a = c.args in
    let e = wrote-end (paged a.self.now.numbers) utf8 a.text.now a.out.now c.loop-at.out c.loop-at.at c.loop-at.done c.loop-at.invariant c.loop-at-test.false in
    record { count = e.0; output = e.1 }
