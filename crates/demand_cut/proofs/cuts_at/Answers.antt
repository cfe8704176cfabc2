-- `cuts_at` meets its contract: each cut is what lies before the place.
use Rattle.std.proofs.Common.{rules, ◌≡◌}
use lib.ListN.{take}
use Rattle.place.proofs.MeasuresRise.{bytes_rise, units_rise, points_rise}
use Rattle.demand_cut.specs.Inside.Cuttings.{IsPlace}
use Rattle.demand_cut.proofs.CutIsBefore.{place-long, same-cut}
use Rattle.demand_cut.proofs.cuts_at.Goals.{In-Ok}
use Rattle.demand_cut.proofs.cuts_at.Goals as goal

-- the place that was found
place : (c : In-Ok) → IsPlace c.args.text.now c.in-Ok.p
place c = c.requires c.in-Ok.p c.in-Ok.is

pub slice_bounds-before-end : goal.slice_bounds-before-end
slice_bounds-before-end c = place-long _ _ (place (goal.at.slice_bounds-before-end c).In-Ok)

pub returns : goal.returns
returns c =
    let p = place (goal.at.returns c).In-Ok in
    let b : c.cut_bytes.result.now ≡ take c.in-Ok.p.bytes c.args.text.now = same-cut _ _ p (λ q. q.bytes) bytes_rise c.cut_bytes.ensures in
    let u : c.cut_units.result.now ≡ take c.in-Ok.p.bytes c.args.text.now = same-cut _ _ p (λ q. q.units) units_rise c.cut_units.ensures in
    let n : c.cut_points.result.now ≡ take c.in-Ok.p.bytes c.args.text.now = same-cut _ _ p (λ q. q.points) points_rise c.cut_points.ensures in
    search rules
