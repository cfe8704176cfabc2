-- `feed` meets its contract: the checks, and then the piece is taken.
use mathlib.Core.Path.{◌≡◌, sym, ap, ◌∙◌}
use mathlib.Core.List.{[], ◌∷◌}
use lib.ListN.{length}
use Rattle.terms.specs.Told.{told_checked, told_written}
use Rattle.decoder_shared.specs.Checks.{admit_says}
use Rattle.decoder_shared.proofs.FeedAnswers.{feed-refused, feed-granted}
use Rattle.decoder_from_utf16.specs.State.{unit_decoding}
use Rattle.decoder_from_utf16.proofs.feed.Goals.{In-Ok}
use Rattle.decoder_from_utf16.proofs.feed.Goals as goal

-- the checks have granted it
granted : (c : In-Ok)
    → let a = c.args in
    admit_says unit_decoding a.state (length a.piece.now) (length a.list.now) ≡ 0 ∷ []
granted c = sym c.admit.ensures ∙ ap told_checked c.in-Ok.is

pub take-requires : goal.take-requires
take-requires c = granted (goal.at.take-requires c).In-Ok

pub returns-in-Ok : goal.returns-in-Ok
returns-in-Ok c =
    let a = c.args in
    feed-granted unit_decoding a.state a.piece.now a.out.now a.list.now (granted (goal.at.returns-in-Ok c).In-Ok)
    c.take.new.out c.take.new.list (told_written c.take.result.answer) c.take.result.state c.take.ensures

pub returns-in-Err : goal.returns-in-Err
returns-in-Err c =
    let a = c.args in
    feed-refused unit_decoding a.state a.piece.now a.out.now a.list.now c.in-Err.why
    (sym (ap told_checked c.in-Err.is) ∙ c.admit.ensures)
