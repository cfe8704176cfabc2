-- `end` meets its contract: the room first, then a pending half is struck as one damage.
use Rattle.theory.specs.Table.{ended}
use Rattle.decoder_shared.specs.Inside.Steps.{Fits}
use Rattle.decoder_shared.specs.Inside.Tallying.{log_of}
use Rattle.decoder_shared.proofs.TallyPlain.{strike-plain}
use Rattle.decoder_from_utf16.proofs.EndOfUnits.{end_none, end_short, end_fits, end-done}
use Rattle.decoder_from_utf16.proofs.end.Goals as goal

pub returns-then-state-eq0 : goal.returns-then-state-eq0
returns-then-state-eq0 c =
    rw (c.totals.ensures, c.tally_of.ensures)
    (end_none c.args.state c.args.out.now c.args.list.now c.requires c.if-state-eq0.true c.fresh.result c.fresh.ensures)

pub returns-then-out-needed : goal.returns-then-out-needed
returns-then-out-needed c =
    end_short c.args.state c.args.out.now c.args.list.now c.requires c.if-state-eq0.false c.if-out-needed.true

pub returns : goal.returns
returns c =
    let a = c.args in
    let fits : Fits a.state.room a.state.pending (log_of c.tally_of-2.result a.list.now)
    = rw c.tally_of-2.ensures (end_fits a.state a.out.now a.list.now c.requires c.if-state-eq0.false) in
    let struck = strike-plain c.tally_of-2.result a.state.room a.list.now a.state.pending ended fits c.strike-all.ensures in
    rw c.totals-2.ensures
    (end-done c.args.state c.args.out.now c.args.list.now c.requires c.if-state-eq0.false c.if-out-needed.false _ _ c.put_bytes.ensures
    (log_of c.strike-all.result c.strike-all.new.list) (rw c.tally_of-2.ensures at struck) c.fresh-2.result c.fresh-2.ensures)
