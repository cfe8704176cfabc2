-- `found_at_places` meets its contract: a match starts and ends at places.
use mathlib.Core.Path.{◌≡◌, sym, ap, ◌∙◌}
use mathlib.Core.List.{[], ◌∷◌}
use native.Mathlib.Omega.{arith}
use Rattle.std.specs.Prelude.{Ok}
use Rattle.find.specs.Match.{told_match, find_says}
use Rattle.find.proofs.CheckedFirst.{found-match}
use Rattle.demand_find.proofs.MatchAtPlaces.{starts-at-place, ends-at-place}
use Rattle.demand_find.proofs.found_at_places.Goals.{In-Ok-Some}
use Rattle.demand_find.proofs.found_at_places.Goals as goal

-- what the search told
found : (c : In-Ok-Some) → let a = c.args in
    0 ∷ c.in-Ok-Some.k ∷ [] ≡ find_says a.entry.now a.needle.now
found c = sym (ap told_match (c.in-Ok-Some.is ∙ ap Ok c.in-Ok-Some.field-0-is)) ∙ c.find.ensures

pub is_place-requires : goal.is_place-requires
is_place-requires c =
    let a = c.args in
    starts-at-place a.entry.now a.needle.now c.in-Ok-Some.k (found (goal.at.is_place-requires c).In-Ok-Some)

pub overflow_add-k : goal.overflow_add-k
overflow_add-k c =
    let a = c.args in
    let f = found-match a.entry.now a.needle.now c.in-Ok-Some.k (found (goal.at.overflow_add-k c).In-Ok-Some) in
    omega (arith, f.within, f.stands.inside)

pub is_place-requires-2 : goal.is_place-requires-2
is_place-requires-2 c =
    let a = c.args in
    ends-at-place a.entry.now a.needle.now c.in-Ok-Some.k (found (goal.at.is_place-requires-2 c).In-Ok-Some)
