-- Each byte below 0x80 is its own unit.
use mathlib.Core.Path.{ap}
use mathlib.Core.List.{[], ◌∷◌}
use lib.ListN.{length, get_or}
use native.Mathlib.Omega.{arith}
use Rattle.terms.proofs.WalkWrites.{Passed, filled-start}
use Rattle.convert_from_utf8.proofs.SpelledByKind.{left, passed-one}
use Rattle.convert_from_utf8.proofs.StridesWalk.{strides, stored_one, room_for}
use Rattle.convert_from_utf8.proofs.spelling.ones.Goals.{Else-ended}
use Rattle.convert_from_utf8.proofs.spelling.ones.Goals as goal

pub loop-at-init : goal.loop-at-init
loop-at-init c = let a = c.args in (filled-start (left a.text.now) (length a.text.now) a.out.now, omega arith)

pub bounds-text-at : goal.bounds-text-at
bounds-text-at c = omega (arith, c.loop-at.invariant.0.inside, c.min-stop.ensures)

pub shape_of-out-then-ended : goal.shape_of-out-then-ended
shape_of-out-then-ended c = c.loop-at.invariant.0.long

pub returns-then-ended : goal.returns-then-ended
returns-then-ended c =
    let text = c.args.text.now in
    strides text c.args.out.now c.loop-at.out c.loop-at.at c.loop-at.at c.loop-at.invariant.0
    (λ e. absurd (omega (arith, ap (λ i. get_or text i 0) e, c.requires.text_nonzero.1, c.if-ended.true)))

-- the byte that was read
here : (c : Else-ended)
    → let text = c.args.text.now in
    Passed (left text) (length text) c.loop-at.at 1 (get_or c.args.text.now c.loop-at.at 0 ∷ [])
here c =
    let text = c.args.text.now in
    (passed-one text c.loop-at.at (omega (arith, c.loop-at-test.true, c.min-stop.ensures)) (omega (arith, c.if-ended.false)))

pub bounds-out-at : goal.bounds-out-at
bounds-out-at c =
    omega (arith, room_for c.args.text.now c.args.out.now c.requires.text_in_bounds c.loop-at.out c.loop-at.at c.loop-at.at c.loop-at.invariant.0 1 (get_or c.args.text.now c.loop-at.at 0 ∷ []) (here c))

pub loop-at-preserved : goal.loop-at-preserved
loop-at-preserved c = (
  stored_one c.args.text.now c.args.out.now c.requires.text_in_bounds c.loop-at.out c.loop-at.at c.loop-at.at c.loop-at.invariant.0 1 (get_or c.args.text.now c.loop-at.at 0) (here c),
  omega (arith, c.loop-at-test.true),
)

pub shape_of-out : goal.shape_of-out
shape_of-out c = c.loop-at.invariant.0.long

pub returns : goal.returns
returns c =
    strides c.args.text.now c.args.out.now c.loop-at.out c.loop-at.at c.loop-at.at c.loop-at.invariant.0
    (λ e. absurd (omega (arith, e, c.loop-at-test.false, c.min-stop.ensures, c.requires.text_nonzero.0)))
