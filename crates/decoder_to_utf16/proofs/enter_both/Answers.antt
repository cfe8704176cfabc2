-- `enter_both` meets its contract: no damage is counted, or the list is full, or all is tallied again.
use mathlib.Core.Path.{sym, ap, ◌∙◌}
use Rattle.theory.specs.Reader.{parts}
use Rattle.theory.specs.Tally.{Log}
use Rattle.utf8.specs.Bytes.{bytes}
use Rattle.decoder_shared.proofs.FeedAnswers.{list_same, list_full}
use Rattle.decoder_shared.specs.Inside.Tallying.{log_of}
use Rattle.decoder.specs.Inside.Steps.{tally_of}
use Rattle.decoder_to_utf16.proofs.enter_both.Goals as goal

pub returns-then-count-state : goal.returns-then-count-state
returns-then-count-state c =
    let a = c.args in
    list_same a.state.room a.seg (log_of (tally_of a.state) a.list.now) (parts bytes a.rest.now).done (sym c.requires.2 ∙ c.if-count-state.true)

pub returns-then-state : goal.returns-then-state
returns-then-state c =
    let a = c.args in
    list_full a.state.room a.seg (log_of (tally_of a.state) a.list.now) (parts bytes a.rest.now).done c.if-state.true

pub tally_both-requires : goal.tally_both-requires
tally_both-requires c = (c.requires.0, c.requires.1)

pub returns : goal.returns
returns c = ap (λ (l : Log). l.list) c.tally_both.ensures.same
