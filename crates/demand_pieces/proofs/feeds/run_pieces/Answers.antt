-- `feeds::run_pieces` meets its contract: the pieces before the cut are fed.
use mathlib.Core.Path.{◌≡◌, refl, sym, ap, ap₂, subst, ◌∙◌}
use Prim.Native.Nat.{◌≤◌}
use mathlib.Core.Bool.{true≢false}
use mathlib.Core.List.{[], ◌∷◌}
use lib.ListN.{length, get_or}
use native.Mathlib.Omega.{arith}
use Rattle.decoder.specs.State.{byte_decoding}
use Rattle.decoder.proofs.BytesLawful.{bytes_lawful}
use Rattle.demand_feeding.specs.Feeds.{finished, pieces}
use Rattle.demand_feeding.specs.Inside.Feeding.{fed_tries}
use Rattle.demand_feeding.proofs.CallsOnTheWay.{begins}
use Rattle.demand_feeding.proofs.CuttingDoesNotMatter.{behind}
use Rattle.demand_feeding.proofs.CutByCut.{behind-bounded, behind-sound, cutting-start, cutting-bounded, cutting-sound, cutting-next, cutting-end}
use Rattle.demand_pieces.specs.Inside.Feeding.{held}
use Rattle.demand_pieces.proofs.feeds.run_pieces.Goals.{After-feed_twice-all}
use Rattle.demand_pieces.proofs.feeds.run_pieces.Goals as goal

pub loop-cut-init : goal.loop-cut-init
loop-cut-init c =
    let a = c.args in (
      cutting-start byte_decoding a.state.room a.list.now a.text.now a.out.now (a.scant ∷ []) a.cuts.now _
          (begins byte_decoding a.state a.state.room a.out.now a.list.now c.requires.0),
      omega arith,
      omega arith,
    )

pub try_refused-requires : goal.try_refused-requires
try_refused-requires c =
    let a = c.args in
    cutting-sound byte_decoding a.state.room a.list.now a.text.now a.out.now (a.scant ∷ []) a.cuts.now _ c.loop-cut.cut-index c.loop-cut.invariant.0 bytes_lawful c.requires.1

pub returns-then-not-try_refused : goal.returns-then-not-try_refused
returns-then-not-try_refused c =
    absurd (true≢false (sym c.try_refused.ensures.yes ∙ c.if-not-try_refused.true))

pub feed_twice-gone-requires : goal.feed_twice-gone-requires
feed_twice-gone-requires c =
    let a = c.args in
    let b = cutting-bounded byte_decoding a.state.room a.list.now a.text.now a.out.now (a.scant ∷ []) a.cuts.now _ c.loop-cut.cut-index c.loop-cut.invariant.0 in
    (b.from_in, subst (λ o. c.loop-cut.gone.done ≤ length o) (sym c.try_refused.ensures.output) b.done-in)

pub loop-cut-preserved : goal.loop-cut-preserved
loop-cut-preserved c =
    let a = c.args in
    let k = c.try_refused.ensures in (
      cutting-next byte_decoding a.state.room a.list.now a.text.now a.out.now (a.scant ∷ []) a.cuts.now _ c.loop-cut.cut-index c.loop-cut.invariant.0 (omega arith) _
          (c.feed_twice-gone.ensures
          ∙ ap₂ (λ o e. fed_tries byte_decoding a.text.now (held c.loop-cut.gone o e) (get_or a.cuts.now c.loop-cut.cut-index 0) (a.scant ∷ [])) k.output k.entries),
      omega (arith, c.feed_twice-gone.auto.out, ap length k.output, c.loop-cut.invariant.1),
      omega (arith, c.feed_twice-gone.auto.list, ap length k.entries, c.loop-cut.invariant.2),
    )

pub feed_twice-all-requires : goal.feed_twice-all-requires
feed_twice-all-requires c =
    let a = c.args in
    let b = cutting-bounded byte_decoding a.state.room a.list.now a.text.now a.out.now (a.scant ∷ []) a.cuts.now _ c.loop-cut.cut-index c.loop-cut.invariant.0 in
    (b.from_in, b.done-in)

all : (c : After-feed_twice-all) → let a = c.args in
    held c.feed_twice-all.result c.feed_twice-all.new.out c.feed_twice-all.new.list
    ≡ behind byte_decoding a.state.room a.list.now a.text.now a.out.now (pieces a.text.now a.cuts.now (a.scant ∷ []) a.out.now)
all c =
    let a = c.args in
    cutting-end byte_decoding a.state.room a.list.now a.text.now a.out.now (a.scant ∷ []) a.cuts.now _ c.loop-cut.cut-index c.loop-cut.invariant.0
    (omega arith) _ c.feed_twice-all.ensures

pub try_refused-requires-2 : goal.try_refused-requires-2
try_refused-requires-2 c =
    let a = c.args in
    behind-sound byte_decoding a.state.room a.list.now a.text.now a.out.now (pieces a.text.now a.cuts.now (a.scant ∷ []) a.out.now) _ (all (goal.at.try_refused-requires-2 c).After-feed_twice-all)
    bytes_lawful c.requires.1

pub returns-then-not-try_refused-2 : goal.returns-then-not-try_refused-2
returns-then-not-try_refused-2 c =
    absurd (true≢false (sym c.try_refused-2.ensures.yes ∙ c.if-not-try_refused-2.true))

pub end-requires : goal.end-requires
end-requires c =
    let a = c.args in
    let b = behind-bounded byte_decoding a.state.room a.list.now a.text.now a.out.now (pieces a.text.now a.cuts.now (a.scant ∷ []) a.out.now) _
    (all (goal.at.end-requires c).After-feed_twice-all) in
    subst (λ o. c.feed_twice-all.result.done ≤ length o) (sym c.try_refused-2.ensures.output) b.done-in

pub returns : goal.returns
returns c =
    let text = c.args.text.now in
    let k = c.try_refused-2.ensures in
    record {
      found =
          c.end.ensures
          ∙ ap₂ (λ o l. finished byte_decoding text (held c.feed_twice-all.result o l)) k.output k.entries
          ∙ ap (finished byte_decoding text) (all (goal.at.returns c).After-feed_twice-all);
      refuses = refl;
    }
