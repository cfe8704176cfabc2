-- `feeds::try_refused` meets its contract: each in turn is refused.
use mathlib.Core.Path.{sym, ◌∙◌}
use mathlib.Core.Bool.{true≢false}
use Rattle.demand_pieces.proofs.RefusedUnchanged.{refuses-then}
use Rattle.demand_pieces.proofs.feeds.try_refused.Goals as goal

pub returns-then-not-try_unsound : goal.returns-then-not-try_unsound
returns-then-not-try_unsound c = absurd (true≢false (sym c.try_unsound.ensures.yes ∙ c.if-not-try_unsound.true))

pub returns-then-not-try_over : goal.returns-then-not-try_over
returns-then-not-try_over c = absurd (true≢false (sym c.try_over.ensures.yes ∙ c.if-not-try_over.true))

pub returns-then-not-try_list : goal.returns-then-not-try_list
returns-then-not-try_list c = absurd (true≢false (sym c.try_list.ensures.yes ∙ c.if-not-try_list.true))

pub returns : goal.returns
returns c =
    refuses-then c.try_unsound.ensures (refuses-then c.try_over.ensures (refuses-then c.try_list.ensures c.try_places.ensures))
