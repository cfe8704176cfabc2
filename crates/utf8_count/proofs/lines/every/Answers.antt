-- `every` meets its contract: the line ends of the bytes passed.
use mathlib.Core.Path.{◌≡◌, ap, ◌∙◌}
use Prim.Native.Nat.{ℕ, ◌+◌, ◌-◌}
use mathlib.Core.Logic.{inl, inr}
use lib.ListN.{length}
use native.Mathlib.Omega.{arith}
use Rattle.std.specs.Slice.Iter.{iter_rest}
use Rattle.std.specs.Iterator.Adapters.{zip_first, zip_second}
use Rattle.utf8_count.specs.Counts.{ends_in}
use Rattle.utf8_count.proofs.LineEndsAdd.{Passed, passed-none, passed-next, passed-few, passed-end, passed-all}
use Rattle.utf8_count.proofs.lines.every.Goals.{After-end_of-ends, After-from}
use Rattle.utf8_count.proofs.lines.every.Goals as goal

-- a byte more
passed : (c : After-end_of-ends)
    → let two = zip_first c.next.new.self in
    Passed c.args.row.now (iter_rest (zip_first two)) (iter_rest (zip_second two)) (iter_rest (zip_second c.next.new.self)) (c.loop-x.ends + c.end_of-ends.result)
passed c =
    let h = c.in-Some.ensures.steps in
    rw c.end_of-ends.ensures (passed-next _ _ _ _ _ c.loop-x.invariant.2 _ _ _ _ _ _ (record { first = h.0.0; second = h.0.1; last = h.1 }))

pub overflow_add-ends : goal.overflow_add-ends
overflow_add-ends c =
    omega (arith, passed-few _ _ _ _ _ (passed (goal.at.overflow_add-ends c).After-end_of-ends), c.requires.0)

pub loop-x-preserved : goal.loop-x-preserved
loop-x-preserved c = (((tt, tt), tt), tt, passed (goal.at.loop-x-preserved c).After-end_of-ends)

pub loop-x-init : goal.loop-x-init
loop-x-init c =
    let start : Passed c.args.row.now c.args.row.now c.args.next.now c.args.third.now 0 =
    rw (c.requires.1, c.requires.2) (passed-none c.args.row.now) in
    rw (
      c.into_iter-x-iterator.ensures.into_iter_gives,
      c.zip-x-items.ensures.first,
      c.zip.ensures.first,
      c.iter.ensures.rest,
      c.zip.ensures.second.0,
      c.zip-x-items.ensures.second.0,
    ) (((tt, tt), tt), tt, start)

-- all of them
ended : (c : After-from)
    → c.loop-x.ends ≡ ends_in (length c.args.row.now - 2) c.args.row.now
ended c =
    let p = c.loop-x.invariant.2 in
    let o = c.in-None.ensures.steps in
    let third = iter_rest (zip_second c.loop-x.x-iterator) in
    let z : length third ≡ 0 = elim o [
      | inl t ↦ elim t.1 [ inl u ↦ passed-end _ _ _ _ _ p (inl u.1.0) | inr u ↦ passed-end _ _ _ _ _ p (inr (inl u.1.0)) ]
      | inr u ↦ u.1.0
    ] in
    passed-all _ _ _ _ _ p z

pub returns : goal.returns
returns c =
    let row = c.args.row.now in
    let e : length row - 2 ≡ 128 = omega (arith, c.requires.0) in
    c.from.ensures ∙ ended (goal.at.returns c).After-from ∙ ap (λ (k : ℕ). ends_in k row) e
