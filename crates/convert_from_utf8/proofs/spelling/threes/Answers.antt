-- Each sequence of three bytes is one unit.
use mathlib.Core.Path.{ap}
use mathlib.Core.List.{[], ◌∷◌}
use lib.ListN.{length, get_or}
use native.Mathlib.Omega.{arith}
use Rattle.terms.proofs.WalkWrites.{Passed, filled-start}
use Rattle.convert_from_utf8.proofs.SpelledByKind.{left, wants-two, passed-three}
use Rattle.convert_from_utf8.proofs.StridesWalk.{strides, stored_one, room_for, cut_short}
use Rattle.convert_from_utf8.proofs.spelling.threes.Goals.{After-of_three}
use Rattle.convert_from_utf8.proofs.spelling.threes.Goals as goal

pub loop-at-init : goal.loop-at-init
loop-at-init c = let a = c.args in filled-start (left a.text.now) (length a.text.now) a.out.now

pub overflow_sub-text : goal.overflow_sub-text
overflow_sub-text c = c.loop-at.invariant.inside

pub bounds-text-at : goal.bounds-text-at
bounds-text-at c = omega (arith, c.loop-at-test.true)

pub shape_of-out-then-a-lt224 : goal.shape_of-out-then-a-lt224
shape_of-out-then-a-lt224 c = c.loop-at.invariant.long

pub returns-then-a-lt224 : goal.returns-then-a-lt224
returns-then-a-lt224 c =
    let text = c.args.text.now in
    strides text c.args.out.now c.loop-at.out c.loop-at.at c.loop-at.put c.loop-at.invariant
    (λ e. absurd (omega (arith, ap (λ i. get_or text i 0) e, c.requires.text_nonzero, c.if-a-lt224.true)))

pub shape_of-out-then-a-ge240 : goal.shape_of-out-then-a-ge240
shape_of-out-then-a-ge240 c = c.loop-at.invariant.long

pub returns-then-a-ge240 : goal.returns-then-a-ge240
returns-then-a-ge240 c =
    let text = c.args.text.now in
    strides text c.args.out.now c.loop-at.out c.loop-at.at c.loop-at.put c.loop-at.invariant
    (λ e. absurd (omega (arith, ap (λ i. get_or text i 0) e, c.requires.text_nonzero, c.if-a-ge240.true)))

pub bounds-text-at-in-loop-at : goal.bounds-text-at-in-loop-at
bounds-text-at-in-loop-at c = omega (arith, c.loop-at-test.true)

pub bounds-text-at-in-loop-at-2 : goal.bounds-text-at-in-loop-at-2
bounds-text-at-in-loop-at-2 c = omega (arith, c.loop-at-test.true)

-- the sequence that was read
here : (c : After-of_three)
    → let text = c.args.text.now in
    Passed (left text) (length text) c.loop-at.at 3 (c.of_three.result ∷ [])
here c =
    let text = c.args.text.now in
    rw c.of_three.ensures
    (passed-three text c.loop-at.at (omega (arith, c.loop-at-test.true)) (omega (arith, c.if-a-lt224.false)) (omega (arith, c.if-a-ge240.false)) (omega (arith, c.loop-at-test.true)))

pub bounds-out-put : goal.bounds-out-put
bounds-out-put c =
    omega (arith, room_for c.args.text.now c.args.out.now c.requires.text_in_bounds c.loop-at.out c.loop-at.at c.loop-at.put c.loop-at.invariant 3 (c.of_three.result ∷ []) (here c))

pub overflow_add-put : goal.overflow_add-put
overflow_add-put c =
    omega (arith, room_for c.args.text.now c.args.out.now c.requires.text_in_bounds c.loop-at.out c.loop-at.at c.loop-at.put c.loop-at.invariant 3 (c.of_three.result ∷ []) (here c), c.well_formed, c.loop-at.invariant.long)

pub loop-at-smaller : goal.loop-at-smaller
loop-at-smaller c = omega (arith, c.loop-at-test.true)

pub loop-at-preserved : goal.loop-at-preserved
loop-at-preserved c =
    stored_one c.args.text.now c.args.out.now c.requires.text_in_bounds c.loop-at.out c.loop-at.at c.loop-at.put c.loop-at.invariant 3 c.of_three.result (here c)

pub shape_of-out : goal.shape_of-out
shape_of-out c = c.loop-at.invariant.long

pub returns : goal.returns
returns c =
    let text = c.args.text.now in
    strides text c.args.out.now c.loop-at.out c.loop-at.at c.loop-at.put c.loop-at.invariant
    (λ e.
    cut_short text c.requires.text_nonzero.0
    (rw (wants-two (get_or text 0 0) c.requires.text_nonzero.1 c.requires.text_nonzero.2) (omega (arith, e, c.loop-at-test.false))))
