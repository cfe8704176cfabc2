-- `walk_by` meets its contract: the stream behind the text is that behind the rest, from the place reached.
use Prim.Native.Nat.{◌+◌, ◌-◌, ◌≤◌, ◌<◌}
use mathlib.Core.Path.{◌≡◌}
use lib.ListN.{drop}
use native.Mathlib.Omega.{arith}
use Rattle.theory.specs.Tally.{total, size}
use Rattle.terms.proofs.WalkBySegments.{part_is}
use Rattle.utf8_pending.specs.Tail.{first_settled}
use Rattle.utf8_check.proofs.RunsPassed.{wait_some}
use Rattle.place.specs.Measures.{reader}
use Rattle.index_build.specs.Inside.Steps.{Walked, Stretched}
use Rattle.index_build.proofs.SettledRun.{run_settled}
use Rattle.index_build.proofs.StreamBehindWalk.{walked_start, walked_on, walked-walks, walked_end, stretched-on, stretched-none, stretched-some}
use borrow.Author.Rules.{rules}
use Rattle.index_build.proofs.walk_by.Goals.{After-pass_run-p, After-stretch-q, Else-q-p, Then-q-p}
use Rattle.index_build.proofs.walk_by.Goals as goal

pub loop-p-init : goal.loop-p-init
loop-p-init c =
    (walked_start c.args.text.now c.args.from c.args.row.now c.requires.walks, omega arith)

pub slice_bounds-stretch-count : goal.slice_bounds-stretch-count
slice_bounds-stretch-count c = c.loop-p.invariant.0.inside

pub slice_bounds-stretch-start : goal.slice_bounds-stretch-start
slice_bounds-stretch-start c = let i = c.loop-p.invariant.0.inside in search rules

pub stretch-q-requires : goal.stretch-q-requires
stretch-q-requires c =
    record {
      stretches = record {
        walks = rw part_is (walked-walks c.args.text.now c.args.from c.args.row.now c.requires.walks c.loop-p.invariant.0);
        some = c.loop-p.invariant.1;
      };
      classes_value = c.requires.classes_value;
    }

-- the segments one by one
stretched : (c : After-stretch-q)
    → Stretched (drop c.loop-p.at c.args.text.now) c.loop-p.p c.loop-p.row c.stretch-q.new.row c.stretch-q.result
stretched c = rw part_is at c.stretch-q.ensures

pub slice_bounds-keep-count : goal.slice_bounds-keep-count
slice_bounds-keep-count c = c.loop-p.invariant.0.inside

pub slice_bounds-keep-start : goal.slice_bounds-keep-start
slice_bounds-keep-start c = let i = c.loop-p.invariant.0.inside in search rules

-- there are none
none : (c : Then-q-p)
    (stretched : Stretched (drop c.loop-p.at c.args.text.now) c.loop-p.p c.loop-p.row c.stretch-q.new.row c.stretch-q.result)
    → let a = c.args in
    Walked a.text.now a.from a.row.now c.stretch-q.new.row c.stretch-q.result c.loop-p.at
    × (total size (first_settled reader (drop c.loop-p.at a.text.now)) ≡ 0)
none c stretched =
    let a = c.args in
    stretched-none a.text.now a.from a.row.now c.loop-p.invariant.0 stretched c.if-q-p.true

pub shape_of-row-then-q-p : goal.shape_of-row-then-q-p
shape_of-row-then-q-p c =
    let s = stretched (goal.at.shape_of-row-then-q-p c).After-stretch-q in
    (none (goal.at.shape_of-row-then-q-p c).Then-q-p s).0.long

pub returns-then-q-p : goal.returns-then-q-p
returns-then-q-p c =
    let a = c.args in
    let n = none (goal.at.returns-then-q-p c).Then-q-p (stretched (goal.at.returns-then-q-p c).After-stretch-q) in
    walked_end a.text.now a.from a.row.now c.requires.walks n.0 a.taken c.keep.result n.1 (rw part_is at c.keep.ensures)

-- there are some
some : (c : Else-q-p)
    (stretched : Stretched (drop c.loop-p.at c.args.text.now) c.loop-p.p c.loop-p.row c.stretch-q.new.row c.stretch-q.result)
    → let from = c.args.from in
    (from.bytes ≤ c.stretch-q.result.bytes) × (c.loop-p.at < c.stretch-q.result.bytes - from.bytes)
some c stretched =
    let a = c.args in
    stretched-some a.text.now a.from a.row.now c.loop-p.invariant.0 stretched c.if-q-p.false

-- behind them
turned : (c : After-stretch-q)
    → let a = c.args in
    Walked a.text.now a.from a.row.now c.stretch-q.new.row c.stretch-q.result (c.stretch-q.result.bytes - a.from.bytes)
turned c =
    let a = c.args in
    stretched-on a.text.now a.from a.row.now c.loop-p.invariant.0 (stretched c)

pub overflow_sub-start : goal.overflow_sub-start
overflow_sub-start c =
    let s = stretched (goal.at.overflow_sub-start c).After-stretch-q in
    (some (goal.at.overflow_sub-start c).Else-q-p s).0

pub slice_bounds-settled_run-count : goal.slice_bounds-settled_run-count
slice_bounds-settled_run-count c = (turned (goal.at.slice_bounds-settled_run-count c).After-stretch-q).inside

pub slice_bounds-settled_run-start : goal.slice_bounds-settled_run-start
slice_bounds-settled_run-start c = let i = (turned (goal.at.slice_bounds-settled_run-start c).After-stretch-q).inside in search rules

pub slice_bounds-pass_run-count : goal.slice_bounds-pass_run-count
slice_bounds-pass_run-count c = (turned (goal.at.slice_bounds-pass_run-count c).After-stretch-q).inside

pub slice_bounds-pass_run-start : goal.slice_bounds-pass_run-start
slice_bounds-pass_run-start c = let i = (turned (goal.at.slice_bounds-pass_run-start c).After-stretch-q).inside in search rules

pub pass_run-p-requires : goal.pass_run-p-requires
pass_run-p-requires c =
    let a = c.args in
    let t = turned (goal.at.pass_run-p-requires c).After-stretch-q in
    rw part_is (record {
      walks = walked-walks a.text.now a.from a.row.now c.requires.walks t;
      settled = run_settled _ c.settled_run-run.result (rw part_is at c.settled_run-run.ensures);
    })

-- the run behind them
ran : (c : After-pass_run-p)
    → let a = c.args in
    (turned : Walked a.text.now a.from a.row.now c.stretch-q.new.row c.stretch-q.result (c.stretch-q.result.bytes - a.from.bytes))
    → Walked a.text.now a.from a.row.now c.pass_run-p.new.row c.pass_run-p.result
    (c.stretch-q.result.bytes - a.from.bytes + c.settled_run-run.result)
ran c turned =
    let a = c.args in
    walked_on a.text.now a.from a.row.now turned (rw part_is at c.pass_run-p.ensures)

pub overflow_add-at : goal.overflow_add-at
overflow_add-at c =
    let t = turned (goal.at.overflow_add-at c).After-stretch-q in
    omega (arith, (ran (goal.at.overflow_add-at c).After-pass_run-p t).inside)

pub loop-p-smaller : goal.loop-p-smaller
loop-p-smaller c =
    let t = turned (goal.at.loop-p-smaller c).After-stretch-q in
    let s = some (goal.at.loop-p-smaller c).Else-q-p (stretched (goal.at.loop-p-smaller c).After-stretch-q) in
    omega (arith, (ran (goal.at.loop-p-smaller c).After-pass_run-p t).inside, s.1)

pub loop-p-preserved : goal.loop-p-preserved
loop-p-preserved c =
    let t = turned (goal.at.loop-p-preserved c).After-stretch-q in (
      ran (goal.at.loop-p-preserved c).After-pass_run-p t,
      rw c.wait_behind-wait.ensures (wait_some c.loop-p.wait c.settled_run-run.result c.loop-p.invariant.1),
    )
