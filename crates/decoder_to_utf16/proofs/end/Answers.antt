-- `end` meets its contract: nothing is pending, or the room first, and then U+FFFD and the last entry.
use mathlib.Core.Path.{◌≡◌}
use lib.ListN.{length}
use Rattle.terms.specs.Limits.{most_pending}
use Rattle.theory.specs.Table.{ended}
use Rattle.decoder_shared.specs.Inside.Steps.{Fits}
use Rattle.decoder_shared.specs.Inside.Tallying.{log_of}
use Rattle.decoder_shared.proofs.TallyPlain.{strike-plain}
use Rattle.decoder_to_utf16.proofs.EndOfState.{end_none, end_fits, end_short, end-done}
use Rattle.decoder_to_utf16.proofs.end.Goals.{Start}
use Rattle.decoder_to_utf16.proofs.end.Goals as goal

-- an array has its length
three : (c : Start) → length c.args.state.held ≡ most_pending
three c = c.well_formed.0.1.1.0.1.0.1

pub returns-then-state-eq0 : goal.returns-then-state-eq0
returns-then-state-eq0 c =
    let a = c.args in
    rw (c.totals.ensures, c.tally_of.ensures)
    (end_none a.state a.out.now a.list.now c.requires c.if-state-eq0.true c.fresh.result c.fresh.ensures)

pub returns-then-out-needed : goal.returns-then-out-needed
returns-then-out-needed c =
    let a = c.args in
    end_short a.state a.out.now a.list.now c.requires (three (goal.at.returns-then-out-needed c).Start) c.if-state-eq0.false c.if-out-needed.true

pub returns : goal.returns
returns c =
    let a = c.args in
    let fits : Fits a.state.room a.state.pending (log_of c.tally_of-2.result a.list.now)
    = rw c.tally_of-2.ensures (end_fits a.state a.out.now a.list.now c.requires) in
    let struck = strike-plain c.tally_of-2.result a.state.room a.list.now a.state.pending ended fits c.strike-all.ensures in
    rw c.totals-2.ensures
    (end-done a.state a.out.now a.list.now c.requires (three (goal.at.returns c).Start) c.if-state-eq0.false c.if-out-needed.false _ c.put_units.result c.put_units.ensures
    (log_of c.strike-all.result c.strike-all.new.list) (rw c.tally_of-2.ensures at struck) c.fresh-2.result c.fresh-2.ensures)
