-- `walk` meets its contract: behind the run that the text begins with, the stream is that behind the rest.
use mathlib.Core.Path.{◌≡◌, sym, subst, ◌∙◌}
use lib.ListN.{drop}
use Rattle.theory.specs.Stream.{State}
use Rattle.theory.specs.Index.{Built}
use Rattle.terms.proofs.WalkBySegments.{part_is}
use Rattle.place.specs.declared.Place.{Place}
use Rattle.index_build.specs.Inside.Steps.{Walked, Closes, is_left}
use Rattle.index_build.proofs.LoneReturn.{left-none}
use Rattle.index_build.proofs.SettledRun.{run_settled}
use Rattle.index_build.proofs.StreamBehindWalk.{walked-walks, walked_end}
use borrow.Author.Rules.{rules}
use Rattle.index_build.proofs.walk.Goals.{After-is_left, After-pass_run-p}
use Rattle.index_build.proofs.walk.Goals as goal

pub pass_run-p-requires : goal.pass_run-p-requires
pass_run-p-requires c =
    record { walks = c.requires; settled = run_settled c.args.text.now c.settled_run-run.result c.settled_run-run.ensures }

-- behind the run
ran : (c : After-pass_run-p)
    → let a = c.args in
    Walked a.text.now a.from a.row.now c.pass_run-p.new.row c.pass_run-p.result c.settled_run-run.result
ran c = c.pass_run-p.ensures

pub slice_bounds-is_left-count : goal.slice_bounds-is_left-count
slice_bounds-is_left-count c = (ran (goal.at.slice_bounds-is_left-count c).After-pass_run-p).inside

pub slice_bounds-is_left-start : goal.slice_bounds-is_left-start
slice_bounds-is_left-start c = let i = (ran (goal.at.slice_bounds-is_left-start c).After-pass_run-p).inside in search rules

-- whether anything of the rest is settled
left_is : (c : After-is_left)
    → c.is_left.result ≡ is_left (drop c.settled_run-run.result c.args.text.now)
left_is c = rw part_is at c.is_left.ensures

pub slice_bounds-keep-count : goal.slice_bounds-keep-count
slice_bounds-keep-count c = (ran (goal.at.slice_bounds-keep-count c).After-pass_run-p).inside

pub slice_bounds-keep-start : goal.slice_bounds-keep-start
slice_bounds-keep-start c = let i = (ran (goal.at.slice_bounds-keep-start c).After-pass_run-p).inside in search rules

pub returns-then-is_left : goal.returns-then-is_left
returns-then-is_left c =
    walked_end c.args.text.now c.args.from c.args.row.now c.requires (ran (goal.at.returns-then-is_left c).After-pass_run-p) c.args.taken c.keep.result
    (left-none (drop c.settled_run-run.result c.args.text.now) (sym (left_is (goal.at.returns-then-is_left c).After-is_left) ∙ c.if-is_left.true)) (rw part_is at c.keep.ensures)

pub slice_bounds-walk_on-count : goal.slice_bounds-walk_on-count
slice_bounds-walk_on-count c = (ran (goal.at.slice_bounds-walk_on-count c).After-pass_run-p).inside

pub slice_bounds-walk_on-start : goal.slice_bounds-walk_on-start
slice_bounds-walk_on-start c = let i = (ran (goal.at.slice_bounds-walk_on-start c).After-pass_run-p).inside in search rules

pub walk_on-requires : goal.walk_on-requires
walk_on-requires c =
    rw part_is (walked-walks c.args.text.now c.args.from c.args.row.now c.requires (ran (goal.at.walk_on-requires c).After-pass_run-p))

pub returns : goal.returns
returns c =
    let a = c.args in
    subst (λ (s : State (Built Place)). Closes a.taken s c.walk_on.new.row c.walk_on.result) (sym (ran (goal.at.returns c).After-pass_run-p).same)
    (rw part_is at c.walk_on.ensures)
