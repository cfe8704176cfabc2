-- `agree` meets its contract: two that tell the same are the same.
use mathlib.Core.Path.{sym, ◌∙◌}
use Rattle.place.proofs.ToldBack.{told-placed}
use Rattle.demand_index.proofs.AnswersAlike.{same_answers}
use Rattle.demand_index.proofs.agree.Goals as goal

pub returns : goal.returns
returns c =
    let a = c.args in
    let plain = c.requires in
    rw (
      same_answers _ _ c.eq.ensures (told-placed _ _ (c.at_byte.ensures ∙ plain.bytes a.byte.0 ∙ sym c.at_byte-2.ensures)),
      same_answers _ _ c.eq-2.ensures (told-placed _ _ (c.at_unit.ensures ∙ plain.units a.unit.0 ∙ sym c.at_unit-2.ensures)),
      same_answers _ _ c.eq-3.ensures (told-placed _ _ (c.at_point.ensures ∙ plain.points a.point.0 ∙ sym c.at_point-2.ensures)),
      same_answers _ _ c.eq-4.ensures (told-placed _ _ (c.at_line.ensures ∙ plain.lines a.line.0 ∙ sym c.at_line-2.ensures)),
    )
