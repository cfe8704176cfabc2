-- Each sequence of four bytes is a pair.
use Prim.Native.Nat.{◌+◌, ◌≤◌}
use mathlib.Core.Path.{ap}
use lib.ListN.{length, get_or, length-set}
use native.Mathlib.Omega.{arith}
use Rattle.terms.proofs.WalkWrites.{filled-start}
use Rattle.convert_from_utf8.proofs.SpelledByKind.{left, wants-three, passed-four}
use Rattle.convert_from_utf8.proofs.StridesWalk.{strides, stored-two, room_for, cut_short}
use Rattle.convert_from_utf8.proofs.spelling.fours.Goals.{After-first_half}
use Rattle.convert_from_utf8.proofs.spelling.fours.Goals as goal

pub loop-at-init : goal.loop-at-init
loop-at-init c = let a = c.args in filled-start (left a.text.now) (length a.text.now) a.out.now

pub overflow_sub-text : goal.overflow_sub-text
overflow_sub-text c = c.loop-at.invariant.inside

pub bounds-text-at : goal.bounds-text-at
bounds-text-at c = omega (arith, c.loop-at-test.true)

pub shape_of-out-then-a-lt240 : goal.shape_of-out-then-a-lt240
shape_of-out-then-a-lt240 c = c.loop-at.invariant.long

pub returns-then-a-lt240 : goal.returns-then-a-lt240
returns-then-a-lt240 c =
    let text = c.args.text.now in
    strides text c.args.out.now c.loop-at.out c.loop-at.at c.loop-at.put c.loop-at.invariant
    (λ e. absurd (omega (arith, ap (λ i. get_or text i 0) e, c.requires.text_nonzero, c.if-a-lt240.true)))

pub bounds-text-at-in-loop-at : goal.bounds-text-at-in-loop-at
bounds-text-at-in-loop-at c = omega (arith, c.loop-at-test.true)

pub bounds-text-at-in-loop-at-2 : goal.bounds-text-at-in-loop-at-2
bounds-text-at-in-loop-at-2 c = omega (arith, c.loop-at-test.true)

-- there is room for the pair of the sequence that was read
room : (c : After-first_half)
    → let text = c.args.text.now in
    c.loop-at.put + 2 ≤ length c.loop-at.out
room c =
    let text = c.args.text.now in
    room_for text c.args.out.now c.requires.text_in_bounds c.loop-at.out c.loop-at.at c.loop-at.put c.loop-at.invariant 4 _
    (passed-four text c.loop-at.at (omega (arith, c.loop-at-test.true)) (omega (arith, c.if-a-lt240.false)) (omega (arith, c.loop-at-test.true)))

pub bounds-out-put : goal.bounds-out-put
bounds-out-put c = omega (arith, room c)

pub bounds-text-at-in-loop-at-3 : goal.bounds-text-at-in-loop-at-3
bounds-text-at-in-loop-at-3 c = omega (arith, c.loop-at-test.true)

pub overflow_add-out : goal.overflow_add-out
overflow_add-out c =
    omega (arith, room (goal.at.overflow_add-out c).After-first_half, c.well_formed, c.loop-at.invariant.long)

pub bounds-out-put-in-loop-at : goal.bounds-out-put-in-loop-at
bounds-out-put-in-loop-at c = let r = room (goal.at.bounds-out-put-in-loop-at c).After-first_half in simp length-set (omega arith)

pub overflow_add-put : goal.overflow_add-put
overflow_add-put c =
    omega (arith, room (goal.at.overflow_add-put c).After-first_half, c.well_formed, c.loop-at.invariant.long)

pub loop-at-smaller : goal.loop-at-smaller
loop-at-smaller c = omega (arith, c.loop-at-test.true)

pub loop-at-preserved : goal.loop-at-preserved
loop-at-preserved c =
    let text = c.args.text.now in
    rw (c.first_half.ensures, c.second_half.ensures)
    (stored-two text c.args.out.now c.requires.text_in_bounds c.loop-at.out c.loop-at.at c.loop-at.put c.loop-at.invariant 4 _ _
    (passed-four text c.loop-at.at (omega (arith, c.loop-at-test.true)) (omega (arith, c.if-a-lt240.false)) (omega (arith, c.loop-at-test.true))))

pub shape_of-out : goal.shape_of-out
shape_of-out c = c.loop-at.invariant.long

pub returns : goal.returns
returns c =
    let text = c.args.text.now in
    strides text c.args.out.now c.loop-at.out c.loop-at.at c.loop-at.put c.loop-at.invariant
    (λ e. cut_short text c.requires.text_nonzero.0 (rw (wants-three (get_or text 0 0) c.requires.text_nonzero.1) (omega (arith, e, c.loop-at-test.false))))
