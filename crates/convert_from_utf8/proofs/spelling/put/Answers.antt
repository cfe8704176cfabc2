-- What is written, and what the rest of the text spells, is the whole.
use Prim.Native.Nat.{◌+◌}
use lib.ListN.{length, length-drop}
use native.Mathlib.Omega.{arith}
use Rattle.terms.proofs.WalkBySegments.{part_is}
use Rattle.terms.proofs.WalkWrites.{back, filled-start, filled_on, filled-end}
use Rattle.convert_from_utf8.proofs.SpelledByKind.{left, left_end}
use Rattle.convert_from_utf8.proofs.StridesWalk.{Walked, room-left, stride-passed, stride-ended}
use Rattle.convert_from_utf8.proofs.spelling.put.Goals.{After-stride-s}
use Rattle.convert_from_utf8.proofs.spelling.put.Goals as goal

pub loop-at-init : goal.loop-at-init
loop-at-init c = let a = c.args in filled-start (left a.text.now) (length a.text.now) a.out.now

pub stride-s-requires : goal.stride-s-requires
stride-s-requires c =
    let text = c.args.text.now in
    record {
      text_nonzero = rw (part_is text c.loop-at.at) (omega (arith, length-drop c.loop-at.at text, c.loop-at-test.true));
      text_in_bounds = room-left text c.args.out.now c.requires c.loop-at.out c.loop-at.at c.loop-at.done c.loop-at.invariant;
    }

-- what is written then
after : (c : After-stride-s)
    → let a = c.args in
    Walked a.text.now a.out.now (back c.loop-at.out c.loop-at.done c.stride-s.new.out)
    (c.loop-at.at + c.stride-s.result.passed) (c.loop-at.done + c.stride-s.result.put)
after c =
    let text = c.args.text.now in
    let s = c.stride-s.ensures in
    rw s.puts.count
    (filled_on (left text) (length text) c.args.out.now c.loop-at.out c.loop-at.at c.loop-at.done c.loop-at.invariant c.requires c.stride-s.result.passed s.vs
    (stride-passed text c.loop-at.at c.loop-at.invariant.inside _ _ _ _ s) c.stride-s.new.out s.puts.output)

pub overflow_add-done : goal.overflow_add-done
overflow_add-done c =
    let w = after (goal.at.overflow_add-done c).After-stride-s in
    omega (arith, w.within, c.well_formed)

pub overflow_add-at : goal.overflow_add-at
overflow_add-at c =
    let w = after (goal.at.overflow_add-at c).After-stride-s in
    omega (arith, w.inside, c.well_formed)

pub shape_of-out-then-s-eq0 : goal.shape_of-out-then-s-eq0
shape_of-out-then-s-eq0 c = (after (goal.at.shape_of-out-then-s-eq0 c).After-stride-s).long

pub returns-then-s-eq0 : goal.returns-then-s-eq0
returns-then-s-eq0 c =
    let text = c.args.text.now in
    let e = filled-end (left text) (length text) c.args.out.now _ _ _ (after (goal.at.returns-then-s-eq0 c).After-stride-s)
    (stride-ended text c.loop-at.at c.loop-at.invariant.inside _ _ _ _ c.stride-s.ensures c.if-s-eq0.true) in
    record { count = e.0; output = e.1 }

pub loop-at-smaller : goal.loop-at-smaller
loop-at-smaller c =
    let w = after (goal.at.loop-at-smaller c).After-stride-s in
    omega (arith, w.inside, c.if-s-eq0.false)

pub loop-at-preserved : goal.loop-at-preserved
loop-at-preserved c = after (goal.at.loop-at-preserved c).After-stride-s

pub shape_of-out : goal.shape_of-out
shape_of-out c = c.loop-at.invariant.long

pub returns : goal.returns
returns c =
    let text = c.args.text.now in
    let e = filled-end (left text) (length text) c.args.out.now c.loop-at.out c.loop-at.at c.loop-at.done c.loop-at.invariant (left_end text c.loop-at.at c.loop-at-test.false) in
    record { count = e.0; output = e.1 }
