-- `tally::walk` meets its contract: the first run is tallied, and then what is settled of the rest.
use Prim.Native.Nat.{ℕ, ◌+◌}
use mathlib.Core.Path.{◌≡◌, refl, sym, subst}
use mathlib.Core.List.{List}
use lib.ListN.{length, drop, length-drop}
use native.Mathlib.Omega.{arith}
use Rattle.theory.specs.Tally.{Log}
use Rattle.theory.proofs.Divisions.{parts-size}
use Rattle.terms.proofs.WalkBySegments.{part_is}
use Rattle.utf8.specs.Bytes.{bytes}
use Rattle.utf8_check.proofs.RunDivides.{Run}
use Rattle.utf8_check.proofs.StandingIsWhole.{run_at}
use Rattle.decoder_shared.specs.Inside.Steps.{Fits, Settles}
use Rattle.decoder_shared.specs.Inside.Tallying.{log_of}
use Rattle.decoder_shared.proofs.TallyPlain.{pass-plain}
use Rattle.decoder_to_utf16.proofs.TallyOfBytes.{empty_settled, Left, left-start, left-fits, left-settles, run_room, run-next}
use Rattle.decoder_to_utf16.proofs.tally.walk.Goals.{After-pass-first, After-walk_on-all, After-whole_run-run}
use Rattle.decoder_to_utf16.proofs.tally.walk.Goals as goal

pub returns-then-text-eq0 : goal.returns-then-text-eq0
returns-then-text-eq0 c =
    let a = c.args in
    empty_settled a.room a.text.now c.if-text-eq0.true (log_of a.tally a.list.now)

-- the first run stands there
whole : (c : After-whole_run-run) → Run c.args.text.now c.whole_run-run.result
whole c = run_at c.args.text.now c.whole_run-run.result c.whole_run-run.ensures

-- and is passed
ran : (c : After-pass-first) → Run c.args.text.now c.whole_run-run.result
    → let a = c.args in
    Left a.room a.text.now (log_of a.tally a.list.now) (drop c.whole_run-run.result a.text.now) (log_of c.pass-first.result a.list.now)
ran c run =
    let a = c.args in
    let entry = log_of a.tally a.list.now in
    let start = left-start a.room a.text.now entry c.requires refl in
    let fits = run_room a.room a.text.now entry start c.whole_run-run.result run in
    run-next a.room a.text.now entry start c.whole_run-run.result run
    (log_of c.pass-first.result a.list.now) (pass-plain a.tally c.whole_run-run.result fits c.pass-first.ensures a.list.now)

-- what the rest gives is what is left to tally
settles : (room : ℕ) (text : List ℕ) (l then : Log) (n : ℕ) → Run text n → Left room text l (drop n text) then
    → (m : Log) (k : ℕ) → Settles bytes room (drop n text) then m k → Settles bytes room text l m (n + k)
settles room text l then n run w =
    let e : length text ≡ n + length (drop n text) = omega (arith, length-drop n text, run.inside) in
    left-settles room text l w n e

pub returns-then-run-text : goal.returns-then-run-text
returns-then-run-text c =
    let at = goal.at.returns-then-run-text c in
    let run = whole at.After-whole_run-run in
    let n = c.whole_run-run.result in
    let a = c.args in
    let entry = log_of a.tally a.list.now in
    let then = log_of c.pass-first.result a.list.now in
    let none : length (drop n a.text.now) ≡ 0 = omega (arith, length-drop n a.text.now, c.if-run-text.true) in
    let e : n + 0 ≡ n = omega arith in
    subst (Settles bytes a.room a.text.now entry then) e
    (settles a.room a.text.now entry then n run (ran at.After-pass-first run) then 0
    (empty_settled a.room (drop n a.text.now) none then))

pub slice_bounds-walk_on-count : goal.slice_bounds-walk_on-count
slice_bounds-walk_on-count c = (whole (goal.at.slice_bounds-walk_on-count c).After-whole_run-run).inside

pub slice_bounds-walk_on-start : goal.slice_bounds-walk_on-start
slice_bounds-walk_on-start c = (whole (goal.at.slice_bounds-walk_on-start c).After-whole_run-run).inside

pub walk_on-all-requires : goal.walk_on-all-requires
walk_on-all-requires c =
    let at = goal.at.walk_on-all-requires c in
    let a = c.args in
    subst (λ (rest : List ℕ). Fits a.room (length rest) (log_of c.pass-first.result a.list.now))
    (sym (part_is a.text.now c.whole_run-run.result))
    (left-fits a.room a.text.now (log_of a.tally a.list.now) (ran at.After-pass-first (whole at.After-whole_run-run)))

-- all is tallied
all : (c : After-walk_on-all) → Run c.args.text.now c.whole_run-run.result
    → let a = c.args in
    Left a.room a.text.now (log_of a.tally a.list.now) (drop c.whole_run-run.result a.text.now) (log_of c.pass-first.result a.list.now)
    → Settles bytes a.room a.text.now (log_of a.tally a.list.now) (log_of c.walk_on-all.result.tally c.walk_on-all.new.list)
    (c.whole_run-run.result + c.walk_on-all.result.size)
all c run passed =
    let a = c.args in
    let then = log_of c.pass-first.result a.list.now in
    let m = log_of c.walk_on-all.result.tally c.walk_on-all.new.list in
    settles a.room a.text.now (log_of a.tally a.list.now) then c.whole_run-run.result run passed m c.walk_on-all.result.size
    (subst (λ (rest : List ℕ). Settles bytes a.room rest then m c.walk_on-all.result.size) (part_is a.text.now c.whole_run-run.result)
    c.walk_on-all.ensures)

pub overflow_add-result : goal.overflow_add-result
overflow_add-result c =
    let at = goal.at.overflow_add-result c in
    let run = whole at.After-whole_run-run in
    let m = all at.After-walk_on-all run (ran at.After-pass-first run) in
    omega (arith, m.size_is, parts-size bytes c.args.text.now, c.requires.sums)

pub returns : goal.returns
returns c =
    let at = goal.at.returns c in
    let run = whole at.After-whole_run-run in
    all at.After-walk_on-all run (ran at.After-pass-first run)
