-- `settled::settled_run` meets its contract: the run ends before the first damage, and one byte earlier where it ends the text with a 0D.
use Prim.Native.Nat.{◌-◌}
use mathlib.Core.Path.{◌≡◌, sym, ◌∙◌}
use mathlib.Core.List.{[]}
use lib.ListN.{drop}
use borrow.Author.Tests.{eq-eqb, ne_eqb}
use native.Mathlib.Omega.{arith}
use Rattle.terms.proofs.WalkBySegments.{part_is}
use Rattle.utf8_check.proofs.RunDivides.{Run}
use Rattle.utf8_check.proofs.StandingIsWhole.{run_at}
use Rattle.place.specs.Lines.{waits_behind}
use Rattle.index_build.proofs.settled.settled_run.Goals.{After-is_return, After-whole_run-run}
use Rattle.index_build.proofs.settled.settled_run.Goals as goal

-- the run that was found
there : (c : After-whole_run-run) → Run c.args.text.now c.whole_run-run.result
there c = run_at c.args.text.now c.whole_run-run.result c.whole_run-run.ensures

pub returns-then-run-eq0 : goal.returns-then-run-eq0
returns-then-run-eq0 c = rw (← c.whole_run-run.ensures, eq-eqb c.whole_run-run.result 0 c.if-run-eq0.true)

pub slice_bounds-is_return-count : goal.slice_bounds-is_return-count
slice_bounds-is_return-count c = omega (arith, (there (goal.at.slice_bounds-is_return-count c).After-whole_run-run).inside)

pub slice_bounds-is_return-start : goal.slice_bounds-is_return-start
slice_bounds-is_return-start c = let i = (there (goal.at.slice_bounds-is_return-start c).After-whole_run-run).inside in omega arith

-- whether it ends the text with a 0D
ends : (c : After-is_return)
    → c.is_return.result ≡ waits_behind (drop (c.whole_run-run.result - 1) c.args.text.now) []
ends c = rw part_is at c.is_return.ensures

pub returns-then-is_return : goal.returns-then-is_return
returns-then-is_return c =
    rw (← c.whole_run-run.ensures, ne_eqb c.whole_run-run.result 0 c.if-run-eq0.false, sym (ends (goal.at.returns-then-is_return c).After-is_return) ∙ c.if-is_return.true)

pub returns : goal.returns
returns c =
    rw (← c.whole_run-run.ensures, ne_eqb c.whole_run-run.result 0 c.if-run-eq0.false, sym (ends (goal.at.returns c).After-is_return) ∙ c.if-is_return.false)
