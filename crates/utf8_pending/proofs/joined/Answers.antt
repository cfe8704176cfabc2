-- `joined` meets its contract: a place is among the pending bytes, or behind them in the piece.
use mathlib.Core.Path.{◌≡◌, ◌∙◌}
use lib.ListN.{length}
use Rattle.terms.specs.Limits.{most_pending}
use Rattle.utf8_pending.proofs.HeldInPlaces.{joined-held, joined-piece}
use Rattle.utf8_pending.proofs.joined.Goals.{Start}
use Rattle.utf8_pending.proofs.joined.Goals as goal

-- an array has its length
three : (c : Start) → length c.args.held ≡ most_pending
three c = c.well_formed.0.1.0.1

pub returns-then-at-n : goal.returns-then-at-n
returns-then-at-n c =
    joined-held c.args.held c.args.piece.now c.args.n (three (goal.at.returns-then-at-n c).Start) c.requires c.args.at c.if-at-n.true

pub returns : goal.returns
returns c =
    c.byte_at.ensures ∙ joined-piece c.args.held c.args.piece.now c.args.n (three (goal.at.returns c).Start) c.requires c.args.at c.if-at-n.false
