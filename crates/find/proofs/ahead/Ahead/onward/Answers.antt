-- `onward` meets its contract: places are passed by wide blocks, by narrow ones and by a last one.
use Rattle.find.proofs.PlacesPassed.{passed-both}
use borrow.Author.Rules.{rules}
use Rattle.find.proofs.ahead.Ahead.onward.Goals as goal

pub pass-near-requires : goal.pass-near-requires
pass-near-requires c = let i = c.pass-wide.ensures.inside in
    record { rare = search rules; needle_in_bounds = search rules }

pub pass-narrow-requires : goal.pass-narrow-requires
pass-narrow-requires c = let i = c.pass-near.ensures.inside in
    record { rare = search rules; needle_in_bounds = search rules }

pub pass_last-requires : goal.pass_last-requires
pass_last-requires c = let i = c.pass-narrow.ensures.inside in
    record { rare = search rules; needle_in_bounds = search rules }

pub returns : goal.returns
returns c =
    passed-both _ _ _ _ _ (passed-both _ _ _ _ _ (passed-both _ _ _ _ _ c.pass-wide.ensures c.pass-near.ensures) c.pass-narrow.ensures) c.pass_last.ensures
