-- `walk::walk` meets its contract: the first run acts, and then what is settled of the rest.
use Prim.Native.Nat.{ℕ, ◌+◌}
use mathlib.Core.Path.{◌≡◌, sym, subst}
use mathlib.Core.List.{List}
use lib.ListN.{length, drop, length-drop}
use native.Mathlib.Omega.{arith}
use Rattle.theory.specs.Reader.{parts}
use Rattle.terms.proofs.WalkBySegments.{part_is}
use Rattle.utf8.specs.Bytes.{bytes}
use Rattle.utf8_check.proofs.RunDivides.{Run, run_long}
use Rattle.utf8_check.proofs.StandingIsWhole.{run_at}
use Rattle.decoder.specs.Inside.Acting.{Work, work, Ready, Settles}
use Rattle.decoder.proofs.SettledWalk.{run-turn, run_fits, run-acted, turn-ready, rest-ready, rest-settles, empty_settled}
use Rattle.decoder.proofs.walk.walk.Goals.{After-pass-first, After-walk_on-all, After-whole_run-run}
use Rattle.decoder.proofs.walk.walk.Goals as goal

pub returns-then-text-eq0 : goal.returns-then-text-eq0
returns-then-text-eq0 c =
    let a = c.args in
    empty_settled a.room a.text.now (work a.repair a.out.now a.list.now) c.requires c.if-text-eq0.true

-- the first run stands there
whole : (c : After-whole_run-run) → Run c.args.text.now c.whole_run-run.result
whole c = run_at c.args.text.now c.whole_run-run.result c.whole_run-run.ensures

pub slice_bounds-pass-end : goal.slice_bounds-pass-end
slice_bounds-pass-end c = sym (run_long c.args.text.now c.whole_run-run.result (whole c))

pub pass-first-requires : goal.pass-first-requires
pass-first-requires c =
    let way = goal.at.pass-first-requires c in
    let a = c.args in
    let n = c.whole_run-run.result in
    let entry = work a.repair a.out.now a.list.now in
    let there = whole way.After-whole_run-run in
    run_fits a.text.now n there a.room entry (turn-ready a.room a.text.now entry c.requires (run-turn a.text.now n there))

-- where n bytes of a text have acted
record Begun (room n : ℕ) (text : List ℕ) (entry then : Work) : Type 0 where
  -- what is enough for all is enough for the rest
  ready : Ready room (parts bytes (drop n text)).done then
  -- and what the rest does is what is left to do
  settles : (v : Work) (k : ℕ) → Settles room (drop n text) then v k → Settles room text entry v (n + k)

-- the first run is passed
passed : (c : After-pass-first) → Run c.args.text.now c.whole_run-run.result
    → Begun c.args.room c.whole_run-run.result c.args.text.now
    (work c.args.repair c.args.out.now c.args.list.now) (work c.pass-first.result c.pass-first.new.out c.args.list.now)
passed c whole =
    let a = c.args in
    let n = c.whole_run-run.result in
    let entry = work a.repair a.out.now a.list.now in
    let then = work c.pass-first.result c.pass-first.new.out a.list.now in
    let e = run-acted a.text.now n whole a.room entry then (c.pass-first.ensures a.list.now) in
    let turn = run-turn a.text.now n whole in
    record {
      ready = rest-ready a.room a.text.now entry c.requires turn then e;
      settles = rest-settles a.room a.text.now entry c.requires turn then e;
    }

pub returns-then-run-text : goal.returns-then-run-text
returns-then-run-text c =
    let way = goal.at.returns-then-run-text c in
    let n = c.whole_run-run.result in
    let a = c.args in
    let begun = passed way.After-pass-first (whole way.After-whole_run-run) in
    let none : length (drop n a.text.now) ≡ 0 = omega (arith, length-drop n a.text.now, c.if-run-text.true) in
    let e : n + 0 ≡ n = omega arith in
    subst (Settles a.room a.text.now _ _) e (begun.settles _ 0 (empty_settled a.room (drop n a.text.now) _ begun.ready none))

pub slice_bounds-walk_on-count : goal.slice_bounds-walk_on-count
slice_bounds-walk_on-count c = (whole (goal.at.slice_bounds-walk_on-count c).After-whole_run-run).inside

pub slice_bounds-walk_on-start : goal.slice_bounds-walk_on-start
slice_bounds-walk_on-start c = (whole (goal.at.slice_bounds-walk_on-start c).After-whole_run-run).inside

pub walk_on-all-requires : goal.walk_on-all-requires
walk_on-all-requires c =
    let way = goal.at.walk_on-all-requires c in
    let a = c.args in
    let then = work c.pass-first.result c.pass-first.new.out a.list.now in
    subst (λ (rest : List ℕ). Ready a.room (parts bytes rest).done then) (sym (part_is a.text.now c.whole_run-run.result))
    (passed way.After-pass-first (whole way.After-whole_run-run)).ready

-- all has acted
all : (c : After-walk_on-all)
    → Begun c.args.room c.whole_run-run.result c.args.text.now
    (work c.args.repair c.args.out.now c.args.list.now) (work c.pass-first.result c.pass-first.new.out c.args.list.now)
    → Settles c.args.room c.args.text.now (work c.args.repair c.args.out.now c.args.list.now)
    (work c.walk_on-all.result.repair c.walk_on-all.new.out c.walk_on-all.new.list) (c.whole_run-run.result + c.walk_on-all.result.size)
all c passed =
    let a = c.args in
    let then = work c.pass-first.result c.pass-first.new.out a.list.now in
    let v = work c.walk_on-all.result.repair c.walk_on-all.new.out c.walk_on-all.new.list in
    let k = c.walk_on-all.result.size in
    passed.settles v k
    (subst (λ (rest : List ℕ). Settles a.room rest then v k) (part_is a.text.now c.whole_run-run.result) c.walk_on-all.ensures)

pub overflow_add-result : goal.overflow_add-result
overflow_add-result c =
    let way = goal.at.overflow_add-result c in
    let begun = passed way.After-pass-first (whole way.After-whole_run-run) in
    omega (arith, (all way.After-walk_on-all begun).bytes-are, c.requires.sums)

pub returns : goal.returns
returns c =
    let way = goal.at.returns c in
    all way.After-walk_on-all (passed way.After-pass-first (whole way.After-whole_run-run))
