-- `count` meets its contract: the sums of the blocks passed, and of the rest.
use mathlib.Core.Path.{sym, ◌∙◌}
use Prim.Native.Nat.{◌+◌}
use lib.ListN.{drop}
use native.Mathlib.Omega.{arith}
use borrow.Author.Tests.{eqb-true}
use Rattle.utf8_count.proofs.CountsByBlocks.{Counted, counted_none, counted-more, counted-few, counted-all, counted_whole, counted-fits}
use Rattle.utf8_count.proofs.count.Goals.{After-block}
use Rattle.utf8_count.proofs.count.Goals as goal

pub loop-row-init : goal.loop-row-init
loop-row-init c = counted_none c.args.text.now

-- a block more
blocked : (c : After-block)
    → let s = c.loop-row.sums in
    let q = c.block.result in
    Counted c.args.text.now (drop 128 c.loop-row.left.now) (s.starts + q.starts) (s.fours + q.fours)
blocked c =
    let s = c.loop-row.sums in
    counted-more c.args.text.now c.loop-row.left.now s.starts s.fours c.loop-row.invariant 128 c.block.result
    (rw c.in-Some.ensures.cases.0 at c.block.ensures)

pub plus-sums-requires : goal.plus-sums-requires
plus-sums-requires c =
    let few = counted-few _ _ _ _ (blocked (goal.at.plus-sums-requires c).After-block) in
    (omega (arith, few.0, c.well_formed), omega (arith, few.1, c.well_formed))

pub loop-row-preserved : goal.loop-row-preserved
loop-row-preserved c =
    rw (c.plus-sums.ensures, c.in-Some.ensures.cases.1) (blocked (goal.at.loop-row-preserved c).After-block)

pub plus-requires : goal.plus-requires
plus-requires c =
    let s = c.loop-row.sums in
    let fits = counted-fits c.args.text.now c.loop-row.left.now s.starts s.fours c.loop-row.invariant c.rest.result c.rest.ensures in
    (omega (arith, fits.0, c.well_formed), omega (arith, fits.1, c.well_formed))

pub returns-then-is_empty : goal.returns-then-is_empty
returns-then-is_empty c =
    let s = c.loop-row.sums in
    counted_whole c.args.text.now c.loop-row.left.now s.starts s.fours c.loop-row.invariant
    (eqb-true _ 0 (sym c.is_empty.ensures ∙ c.if-is_empty.true))

pub returns : goal.returns
returns c =
    let s = c.loop-row.sums in
    c.plus.ensures ∙ counted-all c.args.text.now c.loop-row.left.now s.starts s.fours c.loop-row.invariant c.rest.result c.rest.ensures
