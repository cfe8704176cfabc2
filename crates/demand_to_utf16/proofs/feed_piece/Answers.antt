-- `feed_piece` meets its contract: what the feed told, left in its part of the output and in the list.
use mathlib.Core.Path.{ap, ◌∙◌}
use Prim.Native.Nat.{◌-◌, ◌≤◌}
use lib.ListN.{length}
use Rattle.terms.specs.Told.{told_written, is_granted}
use Rattle.terms.proofs.ToldBack.{no_zero}
use Rattle.decoder_to_utf16.specs.State.{to_units}
use Rattle.demand_shared.proofs.CutsBetween.{bring-from, bring-end}
use Rattle.demand_feeding.proofs.CallsOnTheWay.{all-lent, piece-granted, piece-refused}
use Rattle.demand_to_utf16.specs.Inside.Feeding.{held}
use Rattle.demand_to_utf16.proofs.feed_piece.Goals.{After-bring-to}
use Rattle.demand_to_utf16.proofs.feed_piece.Goals as goal

-- the piece lies in the text
from_in : (c : After-bring-to) → c.args.gone.from ≤ c.bring-to.result
from_in c =
    rw c.bring-to.ensures (bring-from c.args.cut c.args.gone.from (length c.args.text.now) c.requires.0)

to_in : (c : After-bring-to) → c.bring-to.result ≤ length c.args.text.now
to_in c =
    rw c.bring-to.ensures (bring-end c.args.cut c.args.gone.from (length c.args.text.now) c.requires.0)

pub slice_bounds-feed-count : goal.slice_bounds-feed-count
slice_bounds-feed-count c = from_in (goal.at.slice_bounds-feed-count c).After-bring-to

pub slice_bounds-feed-start : goal.slice_bounds-feed-start
slice_bounds-feed-start c = from_in (goal.at.slice_bounds-feed-start c).After-bring-to

pub slice_bounds-feed-end : goal.slice_bounds-feed-end
slice_bounds-feed-end c = to_in (goal.at.slice_bounds-feed-end c).After-bring-to

pub returns-in-Ok : goal.returns-in-Ok
returns-in-Ok c =
    let a = c.args in
    piece-granted to_units a.text.now (held a.gone a.out.now a.list.now) a.cut (length a.out.now) c.bring-to.result
    (length a.out.now - a.gone.done) c.bring-to.ensures (all-lent a.out.now a.gone.done) c.feed-fed.ensures
    c.in-Ok.n (ap told_written c.in-Ok.is)

pub returns-in-Err : goal.returns-in-Err
returns-in-Err c =
    let a = c.args in
    piece-refused to_units a.text.now (held a.gone a.out.now a.list.now) a.cut (length a.out.now) c.bring-to.result
    (length a.out.now - a.gone.done) c.bring-to.ensures (all-lent a.out.now a.gone.done) c.feed-fed.ensures
    (ap (λ q. is_granted (told_written q)) c.in-Err.is ∙ no_zero c.in-Err.field-0)
