-- `cut_at_unit` meets its contract: what is found is a place.
use Rattle.demand_cut.proofs.CutIsBefore.{found_in}
use Rattle.demand_cut.proofs.cut_at_unit.Goals as goal

pub cuts_at-requires : goal.cuts_at-requires
cuts_at-requires c =
    let a = c.args in
    found_in (λ q. q.units) a.offset.0 a.text.now c.at_unit.ensures

pub returns : goal.returns
returns c = c.cuts_at.ensures
