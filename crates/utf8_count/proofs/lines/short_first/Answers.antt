-- `short_first` meets its contract: where all are short, they are counted; or all is looked at.
use mathlib.Core.Path.{◌≡◌, ap, ◌∙◌}
use Prim.Native.Nat.{ℕ, ◌+◌, ◌-◌}
use mathlib.Core.Logic.{inl, inr}
use lib.ListN.{length}
use native.Mathlib.Omega.{arith}
use Rattle.std.specs.Slice.Iter.{iter_rest}
use Rattle.std.specs.Iterator.Adapters.{zip_first, zip_second}
use Rattle.utf8_count.specs.Counts.{ends_in}
use Rattle.utf8_count.specs.Inside.Ends.{long_of}
use Rattle.utf8_count.proofs.LineEndsAdd.{Short, short_none, short-next, passed-end, passed-all}
use Rattle.utf8_count.proofs.lines.short_first.Goals.{After-short_end-ends, Then-long-eq0}
use Rattle.utf8_count.proofs.lines.short_first.Goals as goal

pub loop-x-init : goal.loop-x-init
loop-x-init c =
    let start : Short c.args.row.now c.args.row.now c.args.next.now c.args.third.now 0 0 =
    rw (c.requires.1, c.requires.2) (short_none c.args.row.now) in
    rw (
      c.into_iter-x-iterator.ensures.into_iter_gives,
      c.zip-x-items.ensures.first,
      c.zip.ensures.first,
      c.iter.ensures.rest,
      c.zip.ensures.second.0,
      c.zip-x-items.ensures.second.0,
    ) (((tt, tt), tt), tt, start)

-- a byte more
counted : (c : After-short_end-ends)
    → let two = zip_first c.next.new.self in
    Short c.args.row.now (iter_rest (zip_first two)) (iter_rest (zip_second two)) (iter_rest (zip_second c.next.new.self))
    (c.loop-x.ends + c.short_end-ends.result) (c.loop-x.long + long_of c.in-Some.x.now)
counted c =
    let h = c.in-Some.ensures.steps in
    rw c.short_end-ends.ensures (short-next _ _ _ _ _ _ c.loop-x.invariant.2 _ _ _ _ _ _ (record { first = h.0.0; second = h.0.1; last = h.1 }))

pub overflow_add-ends : goal.overflow_add-ends
overflow_add-ends c =
    omega (arith, (counted (goal.at.overflow_add-ends c).After-short_end-ends).ends-at-most, c.requires.0)

pub overflow_add-long : goal.overflow_add-long
overflow_add-long c =
    omega (arith, (counted (goal.at.overflow_add-long c).After-short_end-ends).long-at-most, c.long_of-long.ensures, c.requires.0)

pub loop-x-preserved : goal.loop-x-preserved
loop-x-preserved c =
    (((tt, tt), tt), tt, rw c.long_of-long.ensures (counted (goal.at.loop-x-preserved c).After-short_end-ends))

-- all of them
ended : (c : Then-long-eq0)
    → c.loop-x.ends ≡ ends_in (length c.args.row.now - 2) c.args.row.now
ended c =
    let p = c.loop-x.invariant.2.ends-are c.if-long-eq0.true in
    let o = c.in-None.ensures.steps in
    let third = iter_rest (zip_second c.loop-x.x-iterator) in
    let z : length third ≡ 0 = elim o [
      | inl t ↦ elim t.1 [ inl u ↦ passed-end _ _ _ _ _ p (inl u.1.0) | inr u ↦ passed-end _ _ _ _ _ p (inr (inl u.1.0)) ]
      | inr u ↦ u.1.0
    ] in
    passed-all _ _ _ _ _ p z

pub returns-then-long-eq0 : goal.returns-then-long-eq0
returns-then-long-eq0 c =
    let row = c.args.row.now in
    let e : length row - 2 ≡ 128 = omega (arith, c.requires.0) in
    c.from.ensures ∙ ended (goal.at.returns-then-long-eq0 c).Then-long-eq0 ∙ ap (λ (k : ℕ). ends_in k row) e

pub every-requires : goal.every-requires
every-requires c = c.requires

pub returns : goal.returns
returns c = c.every.ensures
