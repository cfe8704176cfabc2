-- `cut_at_line` meets its contract: what is found is a place.
use Rattle.demand_cut.proofs.CutIsBefore.{found_in}
use Rattle.demand_cut.proofs.cut_at_line.Goals as goal

pub cuts_at-requires : goal.cuts_at-requires
cuts_at-requires c =
    let a = c.args in
    found_in (λ q. q.lines) a.offset.0 a.text.now c.at_line.ensures

pub returns : goal.returns
returns c = c.cuts_at.ensures
