-- `walk::walk_on` meets its contract: so much has acted, and what is settled of the rest is still to act.
use Prim.Native.Nat.{ℕ, ◌+◌, ◌≤◌}
use mathlib.Core.Path.{◌≡◌, refl, sym, ap, subst, ◌∙◌}
use mathlib.Core.List.{List}
use lib.ListN.{length, take, drop}
use native.Mathlib.Omega.{arith}
use Rattle.terms.specs.Limits.{limit}
use Rattle.terms.specs.Told.{told_first, first_says}
use Rattle.terms.proofs.WalkBySegments.{part_is}
use Rattle.terms.proofs.WalkWrites.{lent, lent_both, lent-less}
use Rattle.utf8.specs.Bytes.{bytes}
use Rattle.utf8.specs.Classes.{classes}
use Rattle.utf8.proofs.ClassesRead.{table, by-table}
use Rattle.utf8_check.proofs.RunDivides.{Run, run_long}
use Rattle.utf8_check.proofs.RunsPassed.{run_paced}
use Rattle.decoder.specs.Inside.Acting.{Work, work, log_of, reached, passed}
use Rattle.decoder.proofs.SettledByReader.{Told, told, stands}
use Rattle.decoder.proofs.SettledWalk.{told-turn, run-turn, run_fits, run-acted, turn-ready}
use Rattle.decoder.proofs.SettledWalk.{Walked, walked_start, walked_next, walked_end}
use Rattle.decoder.proofs.walk.walk_on.Goals.{After-act-repair, After-paced_run-run, After-segment_by-seg, After-settled_size-size}
use Rattle.decoder.proofs.walk.walk_on.Goals as goal

pub loop-pace-init : goal.loop-pace-init
loop-pace-init c =
    let a = c.args in
    (refl, refl, walked_start a.room a.text.now (work a.repair a.out.now a.list.now) c.requires)

-- what was told of the rest of the text
says : (c : After-segment_by-seg) → told_first c.segment_by-seg.result ≡ first_says bytes c.loop-pace.rest.now
unfolding classes table
says c = c.segment_by-seg.ensures ∙ ap (λ look. first_says look c.loop-pace.rest.now) by-table

seen : (c : After-segment_by-seg) → Told c.segment_by-seg.result c.loop-pace.rest.now
seen c = told c.segment_by-seg.result c.loop-pace.rest.now (says c)

pub shape_of-out-then-size-eq0 : goal.shape_of-out-then-size-eq0
shape_of-out-then-size-eq0 c = c.loop-pace.invariant.0

pub shape_of-list-then-size-eq0 : goal.shape_of-list-then-size-eq0
shape_of-list-then-size-eq0 c = c.loop-pace.invariant.1

pub returns-then-size-eq0 : goal.returns-then-size-eq0
returns-then-size-eq0 c =
    walked_end c.args.room c.args.text.now (work c.args.repair c.args.out.now c.args.list.now) c.loop-pace.invariant.2
    (seen (goal.at.returns-then-size-eq0 c).After-segment_by-seg) (sym c.settled_size-size.ensures ∙ c.if-size-eq0.true)

pub act-repair-requires : goal.act-repair-requires
act-repair-requires c =
    let way = goal.at.act-repair-requires c in
    let rest = c.loop-pace.rest.now in (
      stands c.segment_by-seg.result rest (says way.After-segment_by-seg),
      turn-ready c.args.room rest (work c.loop-pace.repair c.loop-pace.out c.loop-pace.list) c.loop-pace.invariant.2.ready
          (told-turn rest (seen way.After-segment_by-seg)),
    )

-- it has acted, and what lies behind the segment is left
acted-on : (c : After-act-repair) → Told c.segment_by-seg.result c.loop-pace.rest.now
    → Walked c.args.room c.args.text.now (work c.args.repair c.args.out.now c.args.list.now)
    (drop c.settled_size-size.result c.loop-pace.rest.now) (work c.act-repair.result c.act-repair.new.out c.act-repair.new.list)
acted-on c seen =
    let a = c.args in
    let then = work c.act-repair.result c.act-repair.new.out c.act-repair.new.list in
    rw c.settled_size-size.ensures
    (walked_next a.room a.text.now (work a.repair a.out.now a.list.now) c.loop-pace.invariant.2 (told-turn c.loop-pace.rest.now seen) then
    (rw seen.settled_is at c.act-repair.ensures))

inside : (c : After-settled_size-size) → Told c.segment_by-seg.result c.loop-pace.rest.now
    → c.settled_size-size.result ≤ length c.loop-pace.rest.now
inside c seen = rw c.settled_size-size.ensures (told-turn c.loop-pace.rest.now seen).inside

pub slice_bounds-behind-count : goal.slice_bounds-behind-count
slice_bounds-behind-count c =
    let way = goal.at.slice_bounds-behind-count c in
    inside way.After-settled_size-size (seen way.After-segment_by-seg)

pub slice_bounds-behind-start : goal.slice_bounds-behind-start
slice_bounds-behind-start c =
    let way = goal.at.slice_bounds-behind-start c in
    inside way.After-settled_size-size (seen way.After-segment_by-seg)

-- the run stands there
next : (c : After-paced_run-run) → Run (drop c.settled_size-size.result c.loop-pace.rest.now) c.paced_run-run.result
next c =
    run_paced (drop c.settled_size-size.result c.loop-pace.rest.now) _ c.paced_run-run.result
    (rw (part_is c.loop-pace.rest.now c.settled_size-size.result) at c.paced_run-run.ensures)

-- as the code cuts it off
cut_off : (c : After-paced_run-run)
    → drop c.settled_size-size.result c.loop-pace.rest.now ≡ lent c.loop-pace.rest.now c.settled_size-size.result
cut_off c = sym (part_is c.loop-pace.rest.now c.settled_size-size.result)

pub slice_bounds-pass-end : goal.slice_bounds-pass-end
slice_bounds-pass-end c =
    let n = c.paced_run-run.result in
    subst (λ (xs : List ℕ). n ≡ length (take n xs)) (cut_off c)
    (sym (run_long (drop c.settled_size-size.result c.loop-pace.rest.now) n (next c)))

pub pass-repair-requires : goal.pass-repair-requires
pass-repair-requires c =
    let way = goal.at.pass-repair-requires c in
    let n = c.paced_run-run.result in
    let room = c.args.room in
    let left = drop c.settled_size-size.result c.loop-pace.rest.now in
    let acted = acted-on way.After-act-repair (seen way.After-segment_by-seg) in
    let there = next way.After-paced_run-run in
    subst (λ (xs : List ℕ). (c.act-repair.result.written + length (take n xs) ≤ length c.act-repair.new.out)
    × (c.act-repair.result.tally.whole + length (take n xs) ≤ limit)) (cut_off way.After-paced_run-run)
    (run_fits left n there room _ (turn-ready room left _ acted.ready (run-turn left n there)))

-- a run that is passed behind what has acted
ran : {room n : ℕ} {text left : List ℕ} {entry mid : Work} → Walked room text entry left mid → Run left n
    → (v : Work) → v ≡ reached mid.out (passed (take n left) (log_of mid)) → Walked room text entry (drop n left) v
ran {room} {n} {text} {left} {entry} {mid} acted next v e =
    walked_next room text entry acted (run-turn left n next) v (run-acted left n next room mid v e)

ends : (c : After-paced_run-run)
    → c.paced_run-run.result ≤ length (lent c.loop-pace.rest.now c.settled_size-size.result)
ends c = subst (λ (xs : List ℕ). c.paced_run-run.result ≤ length xs) (cut_off c) (next c).inside

pub slice_bounds-rest-count : goal.slice_bounds-rest-count
slice_bounds-rest-count c = ends (goal.at.slice_bounds-rest-count c).After-paced_run-run

pub slice_bounds-rest-start : goal.slice_bounds-rest-start
slice_bounds-rest-start c = ends (goal.at.slice_bounds-rest-start c).After-paced_run-run

pub loop-pace-smaller : goal.loop-pace-smaller
loop-pace-smaller c =
    let way = goal.at.loop-pace-smaller c in
    lent-less c.loop-pace.rest.now c.settled_size-size.result c.paced_run-run.result
    (inside way.After-settled_size-size (seen way.After-segment_by-seg)) (omega (arith, c.if-size-eq0.false))

pub loop-pace-preserved : goal.loop-pace-preserved
loop-pace-preserved c =
    let way = goal.at.loop-pace-preserved c in
    let n = c.paced_run-run.result in
    let list = c.act-repair.new.list in
    let mid = work c.act-repair.result c.act-repair.new.out list in
    let v = work c.pass-repair.result c.pass-repair.new.out list in
    let e : v ≡ reached c.act-repair.new.out (passed (take n (drop c.settled_size-size.result c.loop-pace.rest.now)) (log_of mid))
    = subst (λ (xs : List ℕ). v ≡ reached c.act-repair.new.out (passed (take n xs) (log_of mid))) (sym (cut_off way.After-paced_run-run))
    (c.pass-repair.ensures list) in (
      c.pass-repair.auto.out ∙ c.act-repair.auto.out ∙ c.loop-pace.invariant.0,
      c.act-repair.auto.list ∙ c.loop-pace.invariant.1,
      subst (λ (rest : List ℕ). Walked c.args.room c.args.text.now (work c.args.repair c.args.out.now c.args.list.now) rest v)
          (sym (lent_both c.loop-pace.rest.now c.settled_size-size.result n))
          (ran (acted-on way.After-act-repair (seen way.After-segment_by-seg)) (next way.After-paced_run-run) v e),
    )
