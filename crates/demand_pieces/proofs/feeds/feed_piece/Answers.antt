-- `feeds::feed_piece` meets its contract: what the feed told, left in its part of the output and in the list.
use mathlib.Core.Path.{◌≡◌, ap, ◌∙◌}
use Prim.Native.Nat.{◌+◌, ◌-◌, min, ◌≤◌}
use lib.ListN.{length, take, drop, length-drop}
use native.Mathlib.Omega.{arith}
use Rattle.terms.specs.Told.{told_written, is_granted}
use Rattle.terms.proofs.ToldBack.{no_zero}
use Rattle.utf8_pending.proofs.HeldInPlaces.{take_min}
use Rattle.decoder.specs.State.{byte_decoding}
use Rattle.demand_shared.proofs.CutsBetween.{bring-from, bring-end}
use Rattle.demand_feeding.proofs.CallsOnTheWay.{piece-granted, piece-refused}
use Rattle.demand_pieces.specs.Inside.Feeding.{held}
use Rattle.demand_pieces.proofs.feeds.feed_piece.Goals.{After-min}
use Rattle.demand_pieces.proofs.feeds.feed_piece.Goals as goal

-- the piece lies in the text
from_in : (c : After-min) → c.args.gone.from ≤ c.bring-to.result
from_in c =
    rw c.bring-to.ensures (bring-from c.args.cut c.args.gone.from (length c.args.text.now) c.requires.0)

to_in : (c : After-min) → c.bring-to.result ≤ length c.args.text.now
to_in c =
    rw c.bring-to.ensures (bring-end c.args.cut c.args.gone.from (length c.args.text.now) c.requires.0)

lent_is : (c : After-min) → let a = c.args in
    take ((a.gone.done + c.min.result) - a.gone.done) (drop a.gone.done a.out.now) ≡ take a.places (drop a.gone.done a.out.now)
lent_is c =
    let a = c.args in
    let rest = drop a.gone.done a.out.now in
    let e : (a.gone.done + c.min.result) - a.gone.done ≡ min (length rest) a.places
    = omega (arith, c.min.ensures, length-drop a.gone.done a.out.now) in
    ap (λ n. take n rest) e ∙ take_min a.places rest

pub slice_bounds-feed-count : goal.slice_bounds-feed-count
slice_bounds-feed-count c = from_in (goal.at.slice_bounds-feed-count c).After-min

pub slice_bounds-feed-start : goal.slice_bounds-feed-start
slice_bounds-feed-start c = from_in (goal.at.slice_bounds-feed-start c).After-min

pub slice_bounds-feed-end : goal.slice_bounds-feed-end
slice_bounds-feed-end c = to_in (goal.at.slice_bounds-feed-end c).After-min

pub returns-in-Ok : goal.returns-in-Ok
returns-in-Ok c =
    let a = c.args in
    piece-granted byte_decoding a.text.now (held a.gone a.out.now a.list.now) a.cut a.places c.bring-to.result
    ((a.gone.done + c.min.result) - a.gone.done) c.bring-to.ensures (lent_is (goal.at.returns-in-Ok c).After-min) c.feed-fed.ensures
    c.in-Ok.n (ap told_written c.in-Ok.is)

pub returns-in-Err : goal.returns-in-Err
returns-in-Err c =
    let a = c.args in
    piece-refused byte_decoding a.text.now (held a.gone a.out.now a.list.now) a.cut a.places c.bring-to.result
    ((a.gone.done + c.min.result) - a.gone.done) c.bring-to.ensures (lent_is (goal.at.returns-in-Err c).After-min) c.feed-fed.ensures
    (ap (λ q. is_granted (told_written q)) c.in-Err.is ∙ no_zero c.in-Err.field-0)
