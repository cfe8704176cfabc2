-- `reach` meets its contract: from the place that the walk has come to, the last place is still the same.
use native.Mathlib.Omega.{arith}
use Rattle.place.specs.Walk.{number, measure}
use Rattle.place.proofs.OneStep.{Taken, taken}
use Rattle.place.proofs.WalkReached.{reached-start}
use Rattle.place_cut.proofs.LastPlaceKept.{keeps-next, keeps-over, keeps-end}
use Rattle.place_cut.proofs.reach.Goals.{After-step_by-q}
use Rattle.place_cut.proofs.reach.Goals as goal

pub loop-at-init : goal.loop-at-init
loop-at-init c = reached-start _ c.requires.roomy

-- one segment more
turned : (c : After-step_by-q)
    → Taken c.args.text.now c.loop-at.at c.loop-at.p c.step_by-q.result
turned c =
    taken _ c.requires.classes_value c.args.text.now c.loop-at.at c.loop-at.p c.step_by-q.result c.end_first.result
    c.loop-at-test.true c.loop-at.invariant.roomy c.end_first.ensures c.step_by-q.ensures

pub returns-then-number-count : goal.returns-then-number-count
returns-then-number-count c =
    let most = c.args.most in
    keeps-over (measure most) (number most) c.loop-at.invariant (turned (goal.at.returns-then-number-count c).After-step_by-q)
    (omega (arith, c.count.ensures, c.number.ensures, c.if-number-count.true))

pub overflow_sub-at : goal.overflow_sub-at
overflow_sub-at c =
    omega (arith, (turned (goal.at.overflow_sub-at c).After-step_by-q).bytes-are, c.loop-at.invariant.bytes-are)

pub loop-at-smaller : goal.loop-at-smaller
loop-at-smaller c =
    let t = turned (goal.at.loop-at-smaller c).After-step_by-q in
    omega (arith, t.bytes-are, t.inside, c.loop-at.invariant.bytes-are)

pub loop-at-preserved : goal.loop-at-preserved
loop-at-preserved c =
    let most = c.args.most in
    let t = turned (goal.at.loop-at-preserved c).After-step_by-q in
    keeps-next (measure most) (number most) c.loop-at.invariant t (omega (arith, c.count.ensures, c.number.ensures, c.if-number-count.false))
    (omega (arith, t.bytes-are, c.loop-at.invariant.bytes-are))

pub returns : goal.returns
returns c =
    let most = c.args.most in
    keeps-end (measure most) (number most) c.loop-at.invariant c.loop-at-test.false
