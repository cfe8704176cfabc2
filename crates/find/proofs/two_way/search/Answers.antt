-- `search` meets its contract: no match lies before the first place that looking ahead finds, and the walk goes on behind it.
use Prim.Native.Nat.{◌+◌, ◌≤◌}
use lib.ListN.{length}
use native.Mathlib.Omega.{arith}
use Rattle.find.proofs.SearchWalks.{Walked, walked_start, walked_from, walked-passed, walked_end, walked-found, walked_one}
use Rattle.find.proofs.two_way.search.Goals.{After-onward-at, Else-n-at}
use Rattle.find.proofs.two_way.search.Goals as goal

pub returns-then-n-m : goal.returns-then-n-m
returns-then-n-m c = walked_end _ _ 0 0 (walked_start _ _) (omega (arith, c.if-n-m.true))

-- the first place that looking ahead finds
here : (c : After-onward-at) → let a = c.args in
    Walked a.entry.now a.needle.now c.onward-at.result 0
here c = walked_from _ _ c.requires _ c.onward-at.ensures

pub returns-then-n-at : goal.returns-then-n-at
returns-then-n-at c = walked_end _ _ _ _ (here (goal.at.returns-then-n-at c).After-onward-at) c.if-n-at.true

-- there is room for the needle there
room : (c : Else-n-at) → let a = c.args in
    (here : Walked a.entry.now a.needle.now c.onward-at.result 0)
    → c.onward-at.result + length a.needle.now ≤ length a.entry.now
room c here = omega (arith, c.if-n-at.false, here.inside)

pub returns-then-m-agree : goal.returns-then-m-agree
returns-then-m-agree c =
    let h = here (goal.at.returns-then-m-agree c).After-onward-at in
    let r = room (goal.at.returns-then-m-agree c).Else-n-at h in
    walked-found _ _ _ _ h r (λ i h. c.agree.ensures.same i (omega arith) (omega (arith, c.if-m-agree.true)))

pub walk-requires : goal.walk-requires
walk-requires c =
    let h = here (goal.at.walk-requires c).After-onward-at in
    let r = room (goal.at.walk-requires c).Else-n-at h in
    record {
      cut = c.cut_of.ensures;
      rare = (
        c.rarest_two-rare.ensures,
        walked-passed _ _ _ _ (omega (arith, r))
            (walked_one _ _ _ _ h r c.agree.result c.if-m-agree.false (c.agree.ensures.other c.if-m-agree.false) c.requires),
      );
    }
