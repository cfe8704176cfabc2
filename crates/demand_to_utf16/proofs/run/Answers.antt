-- `run` meets its contract: the pieces before the cut are fed.
use mathlib.Core.Path.{◌≡◌, ap, ◌∙◌}
use mathlib.Core.List.{[]}
use native.Mathlib.Omega.{arith}
use Rattle.decoder_to_utf16.specs.State.{to_units}
use Rattle.demand_feeding.specs.Feeds.{finished, pieces}
use Rattle.demand_feeding.proofs.CallsOnTheWay.{begins}
use Rattle.demand_feeding.proofs.CuttingDoesNotMatter.{behind}
use Rattle.demand_feeding.proofs.CutByCut.{behind-bounded, cutting-start, cutting-bounded, cutting-next, cutting-end}
use Rattle.demand_to_utf16.specs.Inside.Feeding.{held}
use Rattle.demand_to_utf16.proofs.run.Goals.{After-feed_piece-all}
use Rattle.demand_to_utf16.proofs.run.Goals as goal

pub loop-cut-init : goal.loop-cut-init
loop-cut-init c =
    let a = c.args in (
      cutting-start to_units a.state.room a.list.now a.text.now a.out.now [] a.cuts.now _
          (begins to_units a.state a.state.room a.out.now a.list.now c.requires),
      omega arith,
      omega arith,
    )

pub feed_piece-gone-requires : goal.feed_piece-gone-requires
feed_piece-gone-requires c =
    let a = c.args in
    let b = cutting-bounded to_units a.state.room a.list.now a.text.now a.out.now [] a.cuts.now _ c.loop-cut.cut-index c.loop-cut.invariant.0 in
    (b.from_in, b.done-in)

pub loop-cut-preserved : goal.loop-cut-preserved
loop-cut-preserved c =
    let a = c.args in (
      cutting-next to_units a.state.room a.list.now a.text.now a.out.now [] a.cuts.now _ c.loop-cut.cut-index c.loop-cut.invariant.0
          (omega arith) _ c.feed_piece-gone.ensures,
      omega (arith, c.feed_piece-gone.auto.out, c.loop-cut.invariant.1),
      omega (arith, c.feed_piece-gone.auto.list, c.loop-cut.invariant.2),
    )

pub feed_piece-all-requires : goal.feed_piece-all-requires
feed_piece-all-requires c =
    let a = c.args in
    let b = cutting-bounded to_units a.state.room a.list.now a.text.now a.out.now [] a.cuts.now _ c.loop-cut.cut-index c.loop-cut.invariant.0 in
    (b.from_in, b.done-in)

all : (c : After-feed_piece-all) → let a = c.args in
    held c.feed_piece-all.result c.feed_piece-all.new.out c.feed_piece-all.new.list
    ≡ behind to_units a.state.room a.list.now a.text.now a.out.now (pieces a.text.now a.cuts.now [] a.out.now)
all c =
    let a = c.args in
    cutting-end to_units a.state.room a.list.now a.text.now a.out.now [] a.cuts.now _ c.loop-cut.cut-index c.loop-cut.invariant.0
    (omega arith) _ c.feed_piece-all.ensures

pub end-requires : goal.end-requires
end-requires c =
    let a = c.args in
    (behind-bounded to_units a.state.room a.list.now a.text.now a.out.now (pieces a.text.now a.cuts.now [] a.out.now) _ (all (goal.at.end-requires c).After-feed_piece-all)
    ).done-in

pub returns : goal.returns
returns c =
    c.end.ensures ∙ ap (finished to_units c.args.text.now) (all (goal.at.returns c).After-feed_piece-all)
