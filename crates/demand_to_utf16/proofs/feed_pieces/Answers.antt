-- `feed_pieces` meets its contract: start, and then the feeds and finish.
use mathlib.Core.Path.{ap, ◌∙◌}
use mathlib.Core.List.{[]}
use Rattle.terms.specs.Told.{is_granted}
use Rattle.terms.proofs.ToldBack.{no_zero}
use Rattle.terms.specs.Told.{told_checked}
use Rattle.decoder_shared.specs.Calls.{Starts}
use Rattle.decoder_to_utf16.specs.State.{to_units}
use Rattle.decoder_to_utf16.proofs.AnyCutting.{to_units_lawful}
use Rattle.demand_feeding.specs.Feeds.{given, pieces}
use Rattle.demand_feeding.proofs.CallsOnTheWay.{ready-fresh, through-ready, through-refused}
use Rattle.demand_to_utf16.proofs.feed_pieces.Goals.{After-start-started}
use Rattle.demand_to_utf16.proofs.feed_pieces.Goals as goal

-- the fresh state is the byte decoder's
starts : (c : After-start-started) → Starts to_units c.args.room (told_checked c.start-started.result.answer) c.start-started.result.state
starts c = record { answer = c.start-started.ensures.answer; state = c.start-started.ensures.state }

pub run-requires : goal.run-requires
run-requires c =
    ready-fresh to_units c.args.room (starts (goal.at.run-requires c).After-start-started) to_units_lawful (ap told_checked c.in-Ok.is)

pub returns-in-Ok : goal.returns-in-Ok
returns-in-Ok c =
    let a = c.args in
    through-ready to_units a.room (starts (goal.at.returns-in-Ok c).After-start-started) to_units_lawful a.text.now (pieces a.text.now a.cuts.now [] a.out.now)
    a.out.now a.list.now _ (ap told_checked c.in-Ok.is) c.run.ensures

pub returns-in-Err : goal.returns-in-Err
returns-in-Err c =
    let a = c.args in
    through-refused to_units a.room (starts (goal.at.returns-in-Err c).After-start-started) a.text.now (pieces a.text.now a.cuts.now [] a.out.now)
    a.out.now a.list.now _ (ap (λ q. is_granted (told_checked q)) c.in-Err.is ∙ no_zero c.in-Err.field-0)
    (ap (λ x. given x a.out.now a.list.now) c.nothing.ensures)
