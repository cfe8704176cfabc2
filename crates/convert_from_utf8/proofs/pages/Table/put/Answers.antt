-- What is written, and what the rest of the text writes, is the form; and the page can hold the rest.
use mathlib.Core.Path.{ap, ◌∙◌}
use Prim.Native.Nat.{◌+◌}
use lib.ListN.{length, length-drop}
use native.Mathlib.Omega.{arith}
use Rattle.terms.proofs.WalkBySegments.{part_is}
use Rattle.terms.proofs.WalkWrites.{back, Wrote, wrote-start, wrote-end}
use Rattle.utf8.specs.Scalar.{utf8}
use Rattle.page.specs.Paged.{paged}
use Rattle.convert_point.proofs.WalkInPasses.{rest-room, wrote-pass}
use Rattle.convert_from_utf8.proofs.PlacesWalk.{places_behind}
use Rattle.convert_from_utf8.proofs.pages.Table.put.Goals.{After-put_stride-s}
use Rattle.convert_from_utf8.proofs.pages.Table.put.Goals as goal

pub loop-at-init : goal.loop-at-init
loop-at-init c = (wrote-start utf8 (paged c.args.self.now.numbers) c.args.text.now c.args.out.now, c.requires.fits)

pub put_stride-s-requires : goal.put_stride-s-requires
put_stride-s-requires c =
    let t = c.args.text.now in
    let at = c.loop-at.at in
    record {
      text_nonzero = (omega (arith, ap length (part_is t at) ∙ length-drop at t, c.loop-at-test.true), rw (part_is t at) c.loop-at.invariant.1);
      text_in_bounds = rest-room utf8 (paged c.args.self.now.numbers) t c.args.out.now c.loop-at.out at c.loop-at.done c.loop-at.invariant.0 c.requires.text_in_bounds;
    }

-- what is written then
after : (c : After-put_stride-s)
    → let a = c.args in
    Wrote utf8 (paged a.self.now.numbers) a.text.now a.out.now (back c.loop-at.out c.loop-at.done c.put_stride-s.new.out)
    (c.loop-at.at + c.put_stride-s.result.passed) (c.loop-at.done + c.put_stride-s.result.put)
after c =
    wrote-pass utf8 (paged c.args.self.now.numbers) c.args.text.now c.args.out.now c.loop-at.out c.loop-at.at c.loop-at.done c.loop-at.invariant.0 c.requires.text_in_bounds
    c.put_stride-s.new.out _ _ c.put_stride-s.ensures.passes

pub overflow_add-at : goal.overflow_add-at
overflow_add-at c =
    let w = after (goal.at.overflow_add-at c).After-put_stride-s in
    omega (arith, w.inside, c.well_formed)

pub overflow_add-done : goal.overflow_add-done
overflow_add-done c =
    let w = after (goal.at.overflow_add-done c).After-put_stride-s in
    omega (arith, w.within, c.well_formed)

pub loop-at-smaller : goal.loop-at-smaller
loop-at-smaller c =
    let w = after (goal.at.loop-at-smaller c).After-put_stride-s in
    omega (arith, w.inside, c.put_stride-s.ensures.passes.passes.some)

pub loop-at-preserved : goal.loop-at-preserved
loop-at-preserved c =
    let a = c.args in
    (after (goal.at.loop-at-preserved c).After-put_stride-s, places_behind a.self.now.numbers a.text.now c.loop-at.at _ _ _ _ c.put_stride-s.ensures)

pub shape_of-out : goal.shape_of-out
shape_of-out c = c.loop-at.invariant.0.long

pub returns : goal.returns
returns c =
    let a = c.args in
    let e = wrote-end utf8 (paged a.self.now.numbers) a.text.now a.out.now c.loop-at.out c.loop-at.at c.loop-at.done c.loop-at.invariant.0 c.loop-at-test.false in
    record { count = e.0; output = e.1 }
