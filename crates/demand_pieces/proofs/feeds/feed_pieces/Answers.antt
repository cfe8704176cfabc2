-- `feeds::feed_pieces` meets its contract: start, and then the feeds and finish.
use mathlib.Core.Path.{refl, ap, ◌∙◌}
use mathlib.Core.List.{[], ◌∷◌}
use Rattle.terms.specs.Told.{is_granted}
use Rattle.terms.proofs.ToldBack.{no_zero}
use Rattle.terms.specs.Told.{told_checked}
use Rattle.decoder.specs.State.{byte_decoding}
use Rattle.decoder.proofs.BytesLawful.{bytes_lawful}
use Rattle.demand_feeding.specs.Feeds.{given, pieces}
use Rattle.demand_feeding.proofs.CallsOnTheWay.{ready-fresh, ready-roomy, through-ready, through-refused}
use Rattle.demand_pieces.proofs.feeds.feed_pieces.Goals as goal

pub run_pieces-requires : goal.run_pieces-requires
run_pieces-requires c =
    let a = c.args in
    let ready = ap told_checked c.in-Ok.is in
    (ready-fresh byte_decoding a.room c.start-started.ensures bytes_lawful ready, ready-roomy byte_decoding a.room c.start-started.ensures bytes_lawful ready)

pub returns-in-Ok : goal.returns-in-Ok
returns-in-Ok c =
    let a = c.args in
    record {
      found = through-ready byte_decoding a.room c.start-started.ensures bytes_lawful a.text.now (pieces a.text.now a.cuts.now (a.scant ∷ []) a.out.now)
          a.out.now a.list.now _ (ap told_checked c.in-Ok.is) c.run_pieces.ensures.found;
      refuses = c.run_pieces.ensures.refuses;
    }

pub returns-in-Err : goal.returns-in-Err
returns-in-Err c =
    let a = c.args in
    record {
      found = through-refused byte_decoding a.room c.start-started.ensures a.text.now (pieces a.text.now a.cuts.now (a.scant ∷ []) a.out.now)
          a.out.now a.list.now _ (ap (λ q. is_granted (told_checked q)) c.in-Err.is ∙ no_zero c.in-Err.field-0)
          (ap (λ x. given x a.out.now a.list.now) c.nothing.ensures);
      refuses = refl;
    }
