-- `run::pass_run` meets its contract: the run has been counted as far as a byte, and the checkpoints up to there are written.
use Prim.Native.Nat.{◌+◌, ◌-◌, ◌%◌, ◌≤◌}
use lib.ListN.{length}
use native.Mathlib.Omega.{arith}
use Rattle.terms.proofs.WalkBySegments.{part_is}
use Rattle.index_checkpoint.specs.Checkpoints.{spacing}
use Rattle.index_build.proofs.StreamBehindWalk.{walked_start}
use Rattle.index_build.proofs.RunMarked.{Passed, passed_start, passed-long, passed-in, passed-adds, passed-covers, passed-next, passed-end}
use borrow.Author.Rules.{rules}
use Rattle.index_build.proofs.run.pass_run.Goals.{At-loop-q}
use Rattle.index_build.proofs.run.pass_run.Goals as goal

pub returns-then-run-eq0 : goal.returns-then-run-eq0
returns-then-run-eq0 c =
    rw c.if-run-eq0.true (walked_start c.args.text.now c.args.from c.args.row.now c.requires.walks)

pub loop-q-init : goal.loop-q-init
loop-q-init c = passed_start c.args.text.now c.args.run c.args.from c.args.row.now

-- how far the run has been counted
passed : (c : At-loop-q)
    → Passed c.args.text.now c.args.run c.args.from c.args.row.now c.requires c.loop-q.row c.loop-q.q c.loop-q.at
passed c = c.loop-q.invariant c.requires

inside : (c : At-loop-q) → c.loop-q.at ≤ length c.args.text.now
inside c =
    passed-in c.args.text.now c.args.run c.args.from c.args.row.now c.requires (passed c)

pub overflow_add-end : goal.overflow_add-end
overflow_add-end c = let i = inside (goal.at.overflow_add-end c).At-loop-q in search rules

pub slice_bounds-add_sums-count : goal.slice_bounds-add_sums-count
slice_bounds-add_sums-count c = inside (goal.at.slice_bounds-add_sums-count c).At-loop-q

pub slice_bounds-add_sums-start : goal.slice_bounds-add_sums-start
slice_bounds-add_sums-start c = let i = inside (goal.at.slice_bounds-add_sums-start c).At-loop-q in search rules

pub overflow_sub-run : goal.overflow_sub-run
overflow_sub-run c = (passed (goal.at.overflow_sub-run c).At-loop-q).inside

pub add_sums-requires : goal.add_sums-requires
add_sums-requires c =
    let i = (passed (goal.at.add_sums-requires c).At-loop-q).inside in
    rw part_is (passed-adds c.args.text.now c.args.run c.args.from c.args.row.now c.requires (passed (goal.at.add_sums-requires c).At-loop-q) (c.args.run - c.loop-q.at) (omega arith))

pub shape_of-row-then-run-end : goal.shape_of-row-then-run-end
shape_of-row-then-run-end c =
    passed-long c.args.text.now c.args.run c.args.from c.args.row.now c.requires (passed (goal.at.shape_of-row-then-run-end c).At-loop-q)

pub returns-then-run-end : goal.returns-then-run-end
returns-then-run-end c =
    passed-end c.args.text.now c.args.run c.args.from c.args.row.now c.requires (passed (goal.at.returns-then-run-end c).At-loop-q) c.if-run-end.true
    c.add_sums.result (rw part_is at c.add_sums.ensures)

pub slice_bounds-add_sums-count-in-loop-q : goal.slice_bounds-add_sums-count-in-loop-q
slice_bounds-add_sums-count-in-loop-q c = inside (goal.at.slice_bounds-add_sums-count-in-loop-q c).At-loop-q

pub slice_bounds-add_sums-start-in-loop-q : goal.slice_bounds-add_sums-start-in-loop-q
slice_bounds-add_sums-start-in-loop-q c = let i = inside (goal.at.slice_bounds-add_sums-start-in-loop-q c).At-loop-q in search rules

pub add_sums-q-requires : goal.add_sums-q-requires
add_sums-q-requires c =
    let m = c.loop-q.at + (spacing - c.loop-q.q.bytes % spacing) - c.loop-q.at in
    rw part_is (passed-adds c.args.text.now c.args.run c.args.from c.args.row.now c.requires (passed (goal.at.add_sums-q-requires c).At-loop-q) m (omega (arith, c.if-run-end.false)))

pub step_back-requires : goal.step_back-requires
step_back-requires c =
    passed-covers c.args.text.now c.args.run c.args.from c.args.row.now c.requires (passed (goal.at.step_back-requires c).At-loop-q) c.if-run-end.false
    c.add_sums-q.result (rw part_is at c.add_sums-q.ensures)

pub loop-q-smaller : goal.loop-q-smaller
loop-q-smaller c = omega (arith, c.if-run-end.false)

pub loop-q-preserved : goal.loop-q-preserved
loop-q-preserved c r =
    passed-next c.args.text.now c.args.run c.args.from c.args.row.now r (c.loop-q.invariant r) c.if-run-end.false
    c.add_sums-q.result (rw part_is at c.add_sums-q.ensures) c.step_back.ensures c.mark.ensures
