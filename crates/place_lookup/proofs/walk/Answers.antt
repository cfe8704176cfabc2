-- `walk` meets its contract: at the place that the walk has come to, lookup still gives the same.
use Prim.Native.Nat.{◌<◌}
use native.Mathlib.Omega.{arith}
use Rattle.place.specs.Walk.{number, measure}
use Rattle.place.proofs.OneStep.{Taken, taken}
use Rattle.place.proofs.WalkReached.{reached-start}
use Rattle.place_lookup.proofs.AnswersReached.{seeks-next, seeks-past, seeks-at, seeks-inside}
use Rattle.place_lookup.proofs.walk.Goals.{After-step_by-p, Else-at-text, Else-offset-count}
use Rattle.place_lookup.proofs.walk.Goals as goal

pub loop-from-init : goal.loop-from-init
loop-from-init c = reached-start _ c.requires.roomy

pub returns-then-count-offset : goal.returns-then-count-offset
returns-then-count-offset c =
    let to = c.args.to in
    seeks-at (measure to) (number to) c.loop-from.invariant (omega (arith, c.count-count.ensures, c.number-offset.ensures, c.if-count-offset.true))

pub returns-then-offset-count : goal.returns-then-offset-count
returns-then-offset-count c =
    let to = c.args.to in
    seeks-inside (measure to) (number to) c.loop-from.invariant (omega (arith, c.count-count.ensures, c.number-offset.ensures, c.if-offset-count.true))

-- the count is less than the offset
short : (c : Else-offset-count)
    → let to = c.args.to in measure to c.loop-from.p < number to
short c =
    omega (arith, c.count-count.ensures, c.number-offset.ensures, c.if-count-offset.false, c.if-offset-count.false)

pub returns-then-at-text : goal.returns-then-at-text
returns-then-at-text c =
    let to = c.args.to in
    seeks-past (measure to) (number to) c.loop-from.invariant (short (goal.at.returns-then-at-text c).Else-offset-count) c.if-at-text.true

-- one segment more
turned : (c : After-step_by-p)
    → Taken c.args.text.now c.loop-from.at c.loop-from.p c.step_by-p.result
turned c =
    taken _ c.requires.classes_value c.args.text.now c.loop-from.at c.loop-from.p c.step_by-p.result c.end_first.result
    (omega (arith, c.loop-from.invariant.inside, c.if-at-text.false)) c.loop-from.invariant.roomy c.end_first.ensures c.step_by-p.ensures

pub overflow_sub-at : goal.overflow_sub-at
overflow_sub-at c =
    let t = turned (goal.at.overflow_sub-at c).After-step_by-p in
    omega (arith, t.bytes-are, c.loop-from.invariant.bytes-are)

pub loop-from-smaller : goal.loop-from-smaller
loop-from-smaller c =
    let t = turned (goal.at.loop-from-smaller c).After-step_by-p in
    omega (arith, t.bytes-are, t.inside, c.loop-from.invariant.bytes-are)

pub loop-from-preserved : goal.loop-from-preserved
loop-from-preserved c =
    let t = turned (goal.at.loop-from-preserved c).After-step_by-p in
    let to = c.args.to in
    seeks-next (measure to) (number to) c.loop-from.invariant (short (goal.at.loop-from-preserved c).Else-offset-count) t (omega (arith, t.bytes-are, c.loop-from.invariant.bytes-are))
