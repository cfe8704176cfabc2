-- `is_place` meets its contract: a place is found by its counts of bytes, of units and of code points.
use mathlib.Core.Path.{◌≡◌, sym, ap, ◌∙◌}
use mathlib.Core.Bool.{true}
use Rattle.place.specs.Lookup.{told_placed}
use Rattle.place.proofs.MeasuresRise.{units_rise, points_rise}
use Rattle.place.proofs.FoundByCounts.{Finds, finds_undo}
use Rattle.place.proofs.ToldBack.{told-placed}
use borrow.Author.Rules.{rules}
use Rattle.demand_find.proofs.is_place.Goals.{In-Ok}
use Rattle.demand_find.proofs.is_place.Goals as goal

-- the place that the lookup by bytes told
found : (c : In-Ok) → Finds (λ q. q.bytes) c.args.offset c.args.text.now c.in-Ok.p
found c =
    sym c.at_byte-found.ensures ∙ ap told_placed c.in-Ok.is

pub returns : goal.returns
returns c =
    let a = c.args in
    let p = c.in-Ok.p in
    let f = found (goal.at.returns c).In-Ok in
    let told = ap told_placed c.in-Ok.is in
    let unit : c.at_unit.result ≡ c.at_byte-found.result
    = told-placed _ _ (c.at_unit.ensures ∙ finds_undo (λ q. q.bytes) (λ q. q.units) units_rise a.offset a.text.now p f ∙ sym told) in
    let point : c.at_point.result ≡ c.at_byte-found.result
    = told-placed _ _ (c.at_point.ensures ∙ finds_undo (λ q. q.bytes) (λ q. q.points) points_rise a.offset a.text.now p f ∙ sym told) in
    let same_unit : c.eq.result ≡ true = search rules in
    let same_point : c.eq-2.result ≡ true = search rules in
    rw (same_unit, same_point)
