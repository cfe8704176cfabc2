-- `feeds::is_refused` meets its contract: a refusal changes nothing, and tells its number.
use mathlib.Core.Path.{sym}
use lib.Seq.{length-take-le}
use Rattle.demand_pieces.proofs.RefusedUnchanged.{not-granted, refused-so}
use Rattle.demand_pieces.proofs.feeds.is_refused.Goals as goal

pub slice_bounds-feed-end : goal.slice_bounds-feed-end
slice_bounds-feed-end c = sym (length-take-le _ _ c.requires.0)

pub returns-in-Ok : goal.returns-in-Ok
returns-in-Ok c =
    absurd (not-granted c.feed.ensures c.args.number c.requires.1 c.requires.2 c.in-Ok.field-0 c.in-Ok.is)

pub returns-in-Err : goal.returns-in-Err
returns-in-Err c =
    refused-so c.feed.ensures c.args.number c.requires.1 c.requires.2 c.in-Err.why c.in-Err.is c.number.result c.number.ensures
