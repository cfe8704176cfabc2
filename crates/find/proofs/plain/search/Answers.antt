-- `search` meets its contract: no place that it has passed has a match.
use native.Mathlib.Omega.{arith}
use Rattle.find.proofs.SearchWalks.{walked_start, walked_end, walked-found, walked_one}
use Rattle.find.proofs.plain.search.Goals as goal

pub returns-then-entry-m : goal.returns-then-entry-m
returns-then-entry-m c = walked_end _ _ 0 0 (walked_start _ _) (omega (arith, c.if-entry-m.true))

pub loop-place-init : goal.loop-place-init
loop-place-init c = walked_start _ _

pub returns-then-m-agree : goal.returns-then-m-agree
returns-then-m-agree c =
    let a = c.args in
    walked-found a.entry.now a.needle.now c.loop-place.place 0 c.loop-place.invariant (omega arith) (λ i h. c.agree.ensures.same i (omega arith) (omega arith))

pub loop-place-preserved : goal.loop-place-preserved
loop-place-preserved c =
    let a = c.args in
    walked_one a.entry.now a.needle.now c.loop-place.place 0 c.loop-place.invariant (omega arith) c.agree.result c.if-m-agree.false
    (c.agree.ensures.other c.if-m-agree.false) (omega arith)

pub returns : goal.returns
returns c = walked_end _ _ _ _ c.loop-place.invariant (omega (arith, c.loop-place-test.false))
