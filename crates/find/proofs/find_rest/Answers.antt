-- `find_rest` meets its contract: what the search tells is where the part begins, or that it is empty.
use mathlib.Core.Path.{◌≡◌, sym, ap, ◌∙◌}
use mathlib.Core.List.{[], ◌∷◌}
use Rattle.std.specs.Prelude.{Ok}
use Rattle.find.specs.Match.{told_match, find_says}
use Rattle.find.proofs.CheckedFirst.{found_inside, rest-found}
use borrow.Author.Rules.{rules}
use Rattle.find.proofs.find_rest.Goals.{In-Ok-Some}
use Rattle.find.proofs.find_rest.Goals as goal

-- what the search told, where it found the needle
found : (c : In-Ok-Some) → let a = c.args in
    0 ∷ c.in-Ok-Some.k ∷ [] ≡ find_says a.entry.now a.needle.now
found c = sym (ap told_match (c.in-Ok-Some.is ∙ ap Ok c.in-Ok-Some.field-0-is)) ∙ c.find.ensures

pub slice_bounds-result-count : goal.slice_bounds-result-count
slice_bounds-result-count c =
    let a = c.args in
    found_inside a.entry.now a.needle.now c.in-Ok-Some.k (found (goal.at.slice_bounds-result-count c).In-Ok-Some)

pub slice_bounds-result-start : goal.slice_bounds-result-start
slice_bounds-result-start c =
    let i = found_inside c.args.entry.now c.args.needle.now c.in-Ok-Some.k (found (goal.at.slice_bounds-result-start c).In-Ok-Some) in
    search rules

pub returns-in-Ok-Some : goal.returns-in-Ok-Some
returns-in-Ok-Some c =
    let a = c.args in
    rest-found a.entry.now a.needle.now c.in-Ok-Some.k (found (goal.at.returns-in-Ok-Some c).In-Ok-Some)
