-- Each sequence that is taken is one unit, and the first one is taken.
use mathlib.Core.Path.{ap}
use mathlib.Core.List.{[], ◌∷◌}
use lib.ListN.{length, get_or}
use native.Mathlib.Omega.{arith}
use Rattle.terms.proofs.WalkWrites.{Passed, filled-start}
use Rattle.convert_from_utf8.proofs.SpelledByKind.{left, wants-one, passed-short}
use Rattle.convert_from_utf8.proofs.StridesWalk.{strides, stored_one, room_for, cut_short}
use Rattle.convert_from_utf8.proofs.spelling.twos.Goals.{In-Some}
use Rattle.convert_from_utf8.proofs.spelling.twos.Goals as goal

pub loop-at-init : goal.loop-at-init
loop-at-init c = let a = c.args in filled-start (left a.text.now) (length a.text.now) a.out.now

pub overflow_sub-text : goal.overflow_sub-text
overflow_sub-text c = c.loop-at.invariant.inside

pub bounds-text-at : goal.bounds-text-at
bounds-text-at c = omega (arith, c.loop-at-test.true)

pub bounds-text-at-in-loop-at : goal.bounds-text-at-in-loop-at
bounds-text-at-in-loop-at c = omega (arith, c.loop-at-test.true)

pub returns-in_default : goal.returns-in_default
returns-in_default c =
    let text = c.args.text.now in
    strides text c.args.out.now c.loop-at.out c.loop-at.at c.loop-at.put c.loop-at.invariant
    (λ e.
    let b = ap (λ i. get_or text i 0) e in
    let n = (rw c.in_default.is at c.short_sequence.ensures) (omega (arith, b, c.requires.text_nonzero.1)) in
    absurd (omega (arith, b, n, c.requires.text_nonzero.2)))

-- the sequence that was read
here : (c : In-Some)
    → let text = c.args.text.now in
    Passed (left text) (length text) c.loop-at.at c.in-Some.s.size (c.in-Some.s.unit ∷ [])
here c =
    let text = c.args.text.now in
    passed-short text c.loop-at.at (omega (arith, c.loop-at-test.true)) c.in-Some.s
    (rw c.in-Some.is at c.short_sequence.ensures) (omega (arith, c.loop-at-test.true))

pub bounds-out-put : goal.bounds-out-put
bounds-out-put c =
    omega (arith, room_for c.args.text.now c.args.out.now c.requires.text_in_bounds c.loop-at.out c.loop-at.at c.loop-at.put c.loop-at.invariant c.in-Some.s.size (c.in-Some.s.unit ∷ []) (here c))

pub overflow_add-put : goal.overflow_add-put
overflow_add-put c =
    omega (arith, room_for c.args.text.now c.args.out.now c.requires.text_in_bounds c.loop-at.out c.loop-at.at c.loop-at.put c.loop-at.invariant c.in-Some.s.size (c.in-Some.s.unit ∷ []) (here c), c.well_formed, c.loop-at.invariant.long)

pub overflow_add-at-in-loop-at : goal.overflow_add-at-in-loop-at
overflow_add-at-in-loop-at c =
    omega (arith, (here (goal.at.overflow_add-at-in-loop-at c).In-Some).inside, c.well_formed)

pub loop-at-smaller : goal.loop-at-smaller
loop-at-smaller c = let s = (rw c.in-Some.is at c.short_sequence.ensures).1 in omega (arith, (here (goal.at.loop-at-smaller c).In-Some).inside, s)

pub loop-at-preserved : goal.loop-at-preserved
loop-at-preserved c =
    stored_one c.args.text.now c.args.out.now c.requires.text_in_bounds c.loop-at.out c.loop-at.at c.loop-at.put c.loop-at.invariant c.in-Some.s.size c.in-Some.s.unit (here (goal.at.loop-at-preserved c).In-Some)

pub shape_of-out : goal.shape_of-out
shape_of-out c = c.loop-at.invariant.long

pub returns : goal.returns
returns c =
    let text = c.args.text.now in
    strides text c.args.out.now c.loop-at.out c.loop-at.at c.loop-at.put c.loop-at.invariant
    (λ e.
    cut_short text c.requires.text_nonzero.0
    (rw (wants-one (get_or text 0 0) c.requires.text_nonzero.1 c.requires.text_nonzero.2) (omega (arith, e, c.loop-at-test.false))))
