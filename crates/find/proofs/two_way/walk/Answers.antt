-- `walk` meets its contract: no place that it passes has a match.
use Prim.Native.Nat.{ℕ, ◌+◌, ◌<◌, ◌≤◌}
use native.Mathlib.Omega.{arith}
use lib.ListN.{length}
use Rattle.find.proofs.SearchWalks.{Walked, walked_from, walked_end, walked-over, walked-right, walked_all, walked-left}
use borrow.Author.Rules.{rules}
use Rattle.find.proofs.two_way.walk.Goals.{After-max, After-next-at, Else-n-at}
use Rattle.find.proofs.two_way.walk.Goals as goal

pub loop-place-init : goal.loop-place-init
loop-place-init c = (walked_from _ _ (omega (arith, c.requires.rare.0.first)) _ c.requires.rare.1, c.requires.rare.0)

-- the place to compare at
here : (c : After-next-at)
    → let a = c.args in
    Walked a.entry.now a.needle.now c.next-at.result c.loop-place.seen
here c =
    let v = c.loop-place.invariant in
    walked-over _ _ _ _ v.0 (omega (arith, v.1.first)) c.next-at.result c.next-at.ensures.0 c.next-at.ensures.1

pub overflow_sub-n-in-loop-place : goal.overflow_sub-n-in-loop-place
overflow_sub-n-in-loop-place c = (here c).inside

pub returns-then-n-at : goal.returns-then-n-at
returns-then-n-at c = walked_end _ _ _ _ (here (goal.at.returns-then-n-at c).After-next-at) c.if-n-at.true

-- there is room for the needle there
room : (c : Else-n-at)
    → let a = c.args in
    (here : Walked a.entry.now a.needle.now c.next-at.result c.loop-place.seen)
    → c.next-at.result + length a.needle.now ≤ length a.entry.now
room c here = omega (arith, c.if-n-at.false, here.inside)

-- where the comparison starts: all between the cut and there is known
starts : (c : After-max)
    → let cut = c.args.plan.cut in
    (cut ≤ c.max.result) × ((j : ℕ) → cut ≤ j → j < c.max.result → j < c.loop-place.seen)
starts c = (omega (arith, c.max.ensures), λ j u v. omega (arith, c.max.ensures))

pub agree-i-requires : goal.agree-i-requires
agree-i-requires c =
    let r = room (goal.at.agree-i-requires c).Else-n-at (here (goal.at.agree-i-requires c).After-next-at) in
    search rules

pub overflow_sub-at : goal.overflow_sub-at
overflow_sub-at c = c.next-at.ensures.0.onward

pub overflow_sub-place : goal.overflow_sub-place
overflow_sub-place c = omega (arith, (starts (goal.at.overflow_sub-place c).After-max).0, c.agree-i.ensures.low)

pub overflow_add-place : goal.overflow_add-place
overflow_add-place c =
    let r = room (goal.at.overflow_add-place c).Else-n-at (here (goal.at.overflow_add-place c).After-next-at) in
    search rules

pub overflow_add-place-then-i-m : goal.overflow_add-place-then-i-m
overflow_add-place-then-i-m c =
    let r = room (goal.at.overflow_add-place-then-i-m c).Else-n-at (here (goal.at.overflow_add-place-then-i-m c).After-next-at) in
    search rules

pub loop-place-smaller-then-i-m : goal.loop-place-smaller-then-i-m
loop-place-smaller-then-i-m c =
    let r = room (goal.at.loop-place-smaller-then-i-m c).Else-n-at (here (goal.at.loop-place-smaller-then-i-m c).After-next-at) in
    omega (arith, r, c.next-at.ensures.0.onward)

pub loop-place-preserved-then-i-m : goal.loop-place-preserved-then-i-m
loop-place-preserved-then-i-m c =
    let a = c.args in
    let h = here (goal.at.loop-place-preserved-then-i-m c).After-next-at in
    let r = room (goal.at.loop-place-preserved-then-i-m c).Else-n-at h in
    let s = starts (goal.at.loop-place-preserved-then-i-m c).After-max in
    let i = c.loop-place.invariant.1 in
    let n = c.behind_look-ahead.ensures _ i.first i.second c.if-i-m.true in (
      walked-right a.entry.now a.needle.now _ _ h a.plan.cut a.plan.shift a.plan.keep c.requires.cut r
          c.max.result c.agree-i.result c.agree-i.ensures s.1 (omega (arith, s.0, c.agree-i.ensures.low)) c.if-i-m.true,
      record { first = n.0; second = n.1 },
    )

pub agree-j-requires : goal.agree-j-requires
agree-j-requires c =
    let r = room (goal.at.agree-j-requires c).Else-n-at (here (goal.at.agree-j-requires c).After-next-at) in
    let k = c.requires.cut.inside in
    search rules

pub returns-then-cut-j : goal.returns-then-cut-j
returns-then-cut-j c =
    let a = c.args in
    let h = here (goal.at.returns-then-cut-j c).After-next-at in
    let r = room (goal.at.returns-then-cut-j c).Else-n-at h in
    let s = starts (goal.at.returns-then-cut-j c).After-max in
    walked_all a.entry.now a.needle.now _ _ h a.plan.cut a.plan.shift a.plan.keep c.requires.cut r
    c.max.result c.agree-i.result c.agree-i.ensures s.1 c.if-i-m.false c.agree-j.result c.agree-j.ensures c.if-cut-j.true

pub overflow_sub-at-in-loop-place : goal.overflow_sub-at-in-loop-place
overflow_sub-at-in-loop-place c = c.next-at.ensures.0.onward

pub overflow_add-place-in-loop-place : goal.overflow_add-place-in-loop-place
overflow_add-place-in-loop-place c =
    let r = room (goal.at.overflow_add-place-in-loop-place c).Else-n-at (here (goal.at.overflow_add-place-in-loop-place c).After-next-at) in
    omega (arith, r, c.requires.cut.short)

pub loop-place-smaller : goal.loop-place-smaller
loop-place-smaller c =
    let r = room (goal.at.loop-place-smaller c).Else-n-at (here (goal.at.loop-place-smaller c).After-next-at) in
    omega (arith, r, c.next-at.ensures.0.onward, c.requires.cut.some, c.requires.cut.short)

pub loop-place-preserved : goal.loop-place-preserved
loop-place-preserved c =
    let a = c.args in
    let h = here (goal.at.loop-place-preserved c).After-next-at in
    let r = room (goal.at.loop-place-preserved c).Else-n-at h in
    let s = starts (goal.at.loop-place-preserved c).After-max in
    let i = c.loop-place.invariant.1 in
    let n = c.behind_look-ahead-in-loop-place.ensures _ i.first i.second (omega (arith, c.if-cut-j.false, c.requires.cut.inside)) in (
      walked-left a.entry.now a.needle.now _ _ h a.plan.cut a.plan.shift a.plan.keep c.requires.cut r
          c.max.result c.agree-i.result c.agree-i.ensures s.1 c.if-i-m.false c.agree-j.result c.agree-j.ensures c.if-cut-j.false,
      record { first = n.0; second = n.1 },
    )

pub returns : goal.returns
returns c = walked_end _ _ _ _ c.loop-place.invariant.0 c.loop-place-test.false
