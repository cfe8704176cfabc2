-- `end` meets its contract: nothing is pending, or the pending bytes are one damage, if there is room for it.
use mathlib.Core.Path.{◌≡◌}
use lib.ListN.{length}
use Rattle.terms.specs.Limits.{most_pending}
use Rattle.decoder.specs.Inside.Acting.{work}
use Rattle.decoder.proofs.FinishAnswers.{finish-none, finish-short, last-ready, finish-done}
use Rattle.decoder.proofs.end.Goals.{Start}
use Rattle.decoder.proofs.end.Goals as goal

-- an array has its length
three : (c : Start) → length c.args.state.held ≡ most_pending
three c = c.well_formed.0.1.1.0.1.0.1

pub returns-then-state-eq0 : goal.returns-then-state-eq0
returns-then-state-eq0 c =
    let a = c.args in
    rw (c.totals.ensures, c.tally_of.ensures)
    (finish-none a.state a.out.now a.list.now (three (goal.at.returns-then-state-eq0 c).Start) c.requires c.if-state-eq0.true c.fresh.result c.fresh.ensures)

pub returns-then-out-needed : goal.returns-then-out-needed
returns-then-out-needed c =
    let a = c.args in
    finish-short a.state a.out.now a.list.now (three (goal.at.returns-then-out-needed c).Start) c.requires c.if-state-eq0.false c.if-out-needed.true

pub mend-all-requires : goal.mend-all-requires
mend-all-requires c =
    let a = c.args in
    rw c.begin.ensures
    (last-ready a.state a.out.now a.list.now (three (goal.at.mend-all-requires c).Start) c.requires c.if-state-eq0.false c.if-out-needed.false)

pub returns : goal.returns
returns c =
    let a = c.args in
    rw c.totals-2.ensures
    (finish-done a.state a.out.now a.list.now (three (goal.at.returns c).Start) c.requires c.if-state-eq0.false c.if-out-needed.false
    (work c.mend-all.result c.mend-all.new.out c.mend-all.new.list)
    (rw c.begin.ensures at c.mend-all.ensures) c.fresh-2.result c.fresh-2.ensures)
