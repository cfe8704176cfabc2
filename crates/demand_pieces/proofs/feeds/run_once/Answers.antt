-- `feeds::run_once` meets its contract: the feed, and then finish.
use mathlib.Core.Path.{◌≡◌, ap, ◌∙◌}
use mathlib.Core.List.{[]}
use lib.ListN.{length}
use Rattle.decoder.specs.State.{byte_decoding}
use Rattle.demand_feeding.specs.Feeds.{call, finished, pieces}
use Rattle.demand_feeding.specs.Inside.Feeding.{fed_one}
use Rattle.demand_feeding.proofs.CallsOnTheWay.{begins}
use Rattle.demand_feeding.proofs.CuttingDoesNotMatter.{behind}
use Rattle.demand_feeding.proofs.CutByCut.{behind-bounded}
use Rattle.demand_pieces.specs.Inside.Feeding.{held}
use Rattle.demand_pieces.proofs.feeds.run_once.Goals.{After-feed_piece-all}
use Rattle.demand_pieces.proofs.feeds.run_once.Goals as goal

fed : (c : After-feed_piece-all) → let a = c.args in
    held c.feed_piece-all.result c.feed_piece-all.new.out c.feed_piece-all.new.list
    ≡ behind byte_decoding a.state.room a.list.now a.text.now a.out.now (pieces a.text.now [] [] a.out.now)
fed c =
    let a = c.args in
    c.feed_piece-all.ensures
    ∙ ap (λ h. fed_one byte_decoding a.text.now h (call (length a.text.now) (length a.out.now)))
    (begins byte_decoding a.state a.state.room a.out.now a.list.now c.requires)

pub end-requires : goal.end-requires
end-requires c =
    let a = c.args in
    (behind-bounded byte_decoding a.state.room a.list.now a.text.now a.out.now (pieces a.text.now [] [] a.out.now) _ (fed (goal.at.end-requires c).After-feed_piece-all)).done-in

pub returns : goal.returns
returns c =
    c.end.ensures ∙ ap (finished byte_decoding c.args.text.now) (fed (goal.at.returns c).After-feed_piece-all)
