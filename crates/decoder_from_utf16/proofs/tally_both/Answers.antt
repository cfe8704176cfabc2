-- `tally_both` meets its contract: the segment, and then the walk.
use mathlib.Core.Path.{◌≡◌}
use Rattle.terms.specs.Told.{size_of}
use Rattle.decoder_shared.specs.Inside.Steps.{Fits, tallied_as}
use Rattle.decoder_shared.specs.Inside.Tallying.{log_of}
use Rattle.decoder_shared.proofs.TallyPlain.{take-plain}
use Rattle.decoder_from_utf16.proofs.tally_both.Goals.{After-take-first}
use Rattle.decoder_from_utf16.proofs.tally_both.Goals as goal

-- the segment is tallied
first : (c : After-take-first)
    → let a = c.args in Fits a.room (size_of a.seg) (log_of c.tally_of.result a.list.now)
    → log_of c.take-first.result c.take-first.new.list ≡ tallied_as a.room a.seg (log_of c.tally_of.result a.list.now)
first c fits = let a = c.args in take-plain c.tally_of.result a.room a.list.now a.seg fits c.take-first.ensures

pub walk-requires : goal.walk-requires
walk-requires c =
    let at = (goal.at.walk-requires c).After-take-first in
    rw (first at (rw c.tally_of.ensures c.requires.0), c.tally_of.ensures) c.requires.1

pub returns : goal.returns
returns c =
    let at = (goal.at.returns c).After-take-first in
    rw (first at (rw c.tally_of.ensures c.requires.0), c.tally_of.ensures) at c.walk.ensures
