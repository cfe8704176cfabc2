-- `feeds::end` meets its contract: what finish told, left in its part of the output and in the list.
use mathlib.Core.Path.{ap, ◌∙◌}
use Rattle.terms.specs.Told.{is_granted}
use Rattle.terms.proofs.ToldBack.{no_zero}
use Rattle.decoder.specs.Feeding.{told_total}
use Rattle.decoder.specs.State.{byte_decoding}
use Rattle.demand_feeding.proofs.CallsOnTheWay.{end_before, end-granted, end_refused}
use Rattle.demand_pieces.specs.Inside.Feeding.{held}
use Rattle.demand_pieces.proofs.feeds.end.Goals as goal

pub returns-then-gone-text : goal.returns-then-gone-text
returns-then-gone-text c =
    let a = c.args in
    end_before byte_decoding a.text.now (held a.gone a.out.now a.list.now) c.if-gone-text.true c.nothing.result c.nothing.ensures

pub returns-in-Ok : goal.returns-in-Ok
returns-in-Ok c =
    let a = c.args in
    end-granted byte_decoding a.text.now (held a.gone a.out.now a.list.now) c.if-gone-text.false c.finish.ensures
    c.in-Ok.totals.written c.in-Ok.totals.whole c.in-Ok.totals.damaged c.in-Ok.totals.count (ap told_total c.in-Ok.is)

pub returns-in-Err : goal.returns-in-Err
returns-in-Err c =
    let a = c.args in
    end_refused byte_decoding a.text.now (held a.gone a.out.now a.list.now) c.if-gone-text.false c.finish.ensures
    (ap (λ q. is_granted (told_total q)) c.in-Err.is ∙ no_zero c.in-Err.field-0) c.nothing-in-Err.result c.nothing-in-Err.ensures
