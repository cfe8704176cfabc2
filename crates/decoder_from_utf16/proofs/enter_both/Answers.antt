-- `enter_both` meets its contract: nothing is entered where no damage was counted, or where the list is full.
use mathlib.Core.Path.{sym, ap, ◌∙◌}
use Rattle.theory.specs.Reader.{parts}
use Rattle.theory.specs.Tally.{Log}
use Rattle.utf16.specs.Units.{units}
use Rattle.decoder_shared.proofs.FeedAnswers.{list_same, list_full}
use Rattle.decoder_shared.specs.Inside.Tallying.{log_of}
use Rattle.decoder_from_utf16.specs.Inside.Tallying.{opening}
use Rattle.decoder_from_utf16.proofs.enter_both.Goals as goal

pub returns-then-count-state : goal.returns-then-count-state
returns-then-count-state c =
    let a = c.args in
    list_same a.state.room a.seg (log_of (opening a.state) a.list.now) (parts units a.rest.now).done (sym c.requires.2 ∙ c.if-count-state.true)

pub returns-then-state : goal.returns-then-state
returns-then-state c =
    let a = c.args in
    list_full a.state.room a.seg (log_of (opening a.state) a.list.now) (parts units a.rest.now).done c.if-state.true

pub returns : goal.returns
returns c = ap (λ (l : Log). l.list) c.tally_both.ensures.same
