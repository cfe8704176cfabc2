-- `feeds::feed_twice` meets its contract: the second feed goes on from the first.
use mathlib.Core.Path.{sym, ap, subst, ◌∙◌}
use lib.ListN.{length}
use Rattle.decoder.specs.State.{byte_decoding}
use Rattle.demand_feeding.specs.Feeds.{call}
use Rattle.demand_feeding.specs.Inside.Feeding.{fed_one}
use Rattle.demand_feeding.proofs.CuttingDoesNotMatter.{Bounded, one-bounded}
use Rattle.demand_pieces.specs.Inside.Feeding.{held}
use Rattle.demand_pieces.proofs.feeds.feed_twice.Goals as goal

pub feed_piece-requires : goal.feed_piece-requires
feed_piece-requires c =
    let a = c.args in
    let b = subst (Bounded a.text.now) (sym c.feed_piece-once.ensures)
    (one-bounded byte_decoding a.text.now (held a.gone a.out.now a.list.now) (call a.cut a.scant)
    (record { from_in = c.requires.0; done-in = c.requires.1 })) in
    (b.from_in, b.done-in)

pub returns : goal.returns
returns c =
    let a = c.args in
    c.feed_piece.ensures ∙ ap (λ h. fed_one byte_decoding a.text.now h (call a.cut (length a.out.now))) c.feed_piece-once.ensures
