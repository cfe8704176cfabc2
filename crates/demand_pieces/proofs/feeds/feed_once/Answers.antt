-- `feeds::feed_once` meets its contract: start, and then the feed and finish.
use mathlib.Core.Path.{ap, ◌∙◌}
use mathlib.Core.List.{[]}
use Rattle.terms.specs.Told.{is_granted}
use Rattle.terms.proofs.ToldBack.{no_zero}
use Rattle.terms.specs.Told.{told_checked}
use Rattle.decoder.specs.State.{byte_decoding}
use Rattle.decoder.proofs.BytesLawful.{bytes_lawful}
use Rattle.demand_feeding.specs.Feeds.{given, pieces}
use Rattle.demand_feeding.proofs.CallsOnTheWay.{ready-fresh, through-ready, through-refused}
use Rattle.demand_pieces.proofs.feeds.feed_once.Goals as goal

pub run_once-requires : goal.run_once-requires
run_once-requires c =
    ready-fresh byte_decoding c.args.room c.start-started.ensures bytes_lawful (ap told_checked c.in-Ok.is)

pub returns-in-Ok : goal.returns-in-Ok
returns-in-Ok c =
    let a = c.args in
    through-ready byte_decoding a.room c.start-started.ensures bytes_lawful a.text.now (pieces a.text.now [] [] a.out.now) a.out.now a.list.now _
    (ap told_checked c.in-Ok.is) c.run_once.ensures

pub returns-in-Err : goal.returns-in-Err
returns-in-Err c =
    let a = c.args in
    through-refused byte_decoding a.room c.start-started.ensures a.text.now (pieces a.text.now [] [] a.out.now) a.out.now a.list.now _
    (ap (λ q. is_granted (told_checked q)) c.in-Err.is ∙ no_zero c.in-Err.field-0)
    (ap (λ x. given x a.out.now a.list.now) c.nothing.ensures)
