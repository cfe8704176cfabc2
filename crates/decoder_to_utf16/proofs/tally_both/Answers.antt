-- `tally_both` meets its contract: the segment first, and the text behind it.
use mathlib.Core.Path.{◌≡◌, sym, subst}
use lib.ListN.{length}
use Rattle.theory.specs.Tally.{Log}
use Rattle.utf8.specs.Bytes.{bytes}
use Rattle.decoder_shared.specs.Inside.Steps.{Fits, tallied_as, Settles}
use Rattle.terms.specs.Told.{size_of}
use Rattle.decoder_shared.specs.Inside.Tallying.{log_of}
use Rattle.decoder_shared.proofs.TallyPlain.{take-plain}
use Rattle.decoder.specs.Inside.Steps.{tally_of}
use Rattle.decoder_to_utf16.proofs.tally_both.Goals.{After-take-first}
use Rattle.decoder_to_utf16.proofs.tally_both.Goals as goal

-- the segment is tallied
first : (c : After-take-first)
    → let a = c.args in log_of c.take-first.result c.take-first.new.list ≡ tallied_as a.room a.seg (log_of (tally_of a.state) a.list.now)
first c =
    let a = c.args in
    let fits : Fits a.room (size_of a.seg) (log_of c.tally_of.result a.list.now) = rw c.tally_of.ensures c.requires.0 in
    rw c.tally_of.ensures at (take-plain c.tally_of.result a.room a.list.now a.seg fits c.take-first.ensures)

pub walk-requires : goal.walk-requires
walk-requires c =
    subst (λ (l : Log). Fits c.args.room (length c.args.rest.now) l) (sym (first (goal.at.walk-requires c).After-take-first)) c.requires.1

pub returns : goal.returns
returns c =
    let a = c.args in
    subst (λ (l : Log). Settles bytes a.room a.rest.now l (log_of c.walk.result.tally c.walk.new.list) c.walk.result.size) (first (goal.at.returns c).After-take-first)
    c.walk.ensures
