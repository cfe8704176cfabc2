-- `watch_all` meets its contract: the bytes before b were watched.
use mathlib.Core.Path.{sym, ap, ◌∙◌}
use lib.ListN.{drop_of_length-le}
use native.Mathlib.Omega.{arith}
use Rattle.demand_watch.specs.Watching.{watches}
use Rattle.demand_watch.proofs.WatchedAsFed.{watches-next}
use Rattle.demand_watch.proofs.watch_all.Goals as goal

pub loop-b-init : goal.loop-b-init
loop-b-init c = rw c.fresh.ensures

pub loop-b-preserved : goal.loop-b-preserved
loop-b-preserved c =
    let a = c.args in
    c.loop-b.invariant ∙ watches-next a.text.now c.loop-b.last c.step-last.result c.loop-b.b-index (omega arith) c.step-last.ensures

pub returns : goal.returns
returns c =
    let a = c.args in
    sym (c.loop-b.invariant ∙ ap (watches c.loop-b.last) (drop_of_length-le a.text.now (omega arith)))
