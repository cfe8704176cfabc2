-- `feed_rest` meets its contract: tallied without room, then written, then entered.
use mathlib.Core.Path.{sym}
use Prim.Native.Nat.{◌≤◌}
use lib.ListN.{length}
use lib.Seq.{length-take-le}
use native.Mathlib.Omega.{arith}
use Rattle.utf16.specs.Units.{units}
use Rattle.utf16.proofs.RowsOfUnits.{units_division}
use Rattle.utf8.specs.Scalar.{utf8}
use Rattle.utf16.specs.Scalar.{utf16}
use Rattle.decoder_shared.proofs.SettledIsCut.{point_causeless}
use Rattle.decoder_shared.proofs.SettledText.{settled-inside, dry-fit, enterable, both-refused, both-granted}
use Rattle.decoder_from_utf16.specs.State.{unit_decoding}
use Rattle.decoder_from_utf16.proofs.SettledUnits.{units-cut}
use borrow.Author.Rules.{rules}
use Rattle.decoder_from_utf16.proofs.feed_rest.Goals.{After-tally_both-all}
use Rattle.decoder_from_utf16.proofs.feed_rest.Goals as goal

pub tally_both-all-requires : goal.tally_both-all-requires
tally_both-all-requires c =
    dry-fit unit_decoding units_division units-cut (point_causeless utf16 utf8) c.args.state c.args.seg c.args.head.now c.args.rest.now c.args.list.now c.requires

-- what is settled lies in the text
inside : (c : After-tally_both-all) → c.tally_both-all.result.size ≤ length c.args.rest.now
inside c =
    omega (arith, c.tally_both-all.ensures.size_is, settled-inside units c.args.rest.now)

pub slice_bounds-write_both-end : goal.slice_bounds-write_both-end
slice_bounds-write_both-end c =
    sym (length-take-le c.tally_both-all.result.size c.args.rest.now (inside (goal.at.slice_bounds-write_both-end c).After-tally_both-all))

pub write_both-requires : goal.write_both-requires
write_both-requires c = (
  omega (arith, c.requires.sums),
  omega (arith, c.requires.sums, inside (goal.at.write_both-requires c).After-tally_both-all, length-take-le c.tally_both-all.result.size c.args.rest.now (inside (goal.at.write_both-requires c).After-tally_both-all)),
)

pub enter_both-requires : goal.enter_both-requires
enter_both-requires c =
    enterable unit_decoding units_division units-cut (point_causeless utf16 utf8) c.args.state c.args.seg c.args.head.now c.args.rest.now c.args.list.now c.requires
    _ c.tally_both-all.result.size c.tally_both-all.ensures

pub offset_bounds-rest-end : goal.offset_bounds-rest-end
offset_bounds-rest-end c = let i = inside (goal.at.offset_bounds-rest-end c).After-tally_both-all in search rules

pub slice_bounds-keep-count : goal.slice_bounds-keep-count
slice_bounds-keep-count c = inside (goal.at.slice_bounds-keep-count c).After-tally_both-all

pub slice_bounds-keep-start : goal.slice_bounds-keep-start
slice_bounds-keep-start c = let i = inside (goal.at.slice_bounds-keep-start c).After-tally_both-all in search rules

pub returns-in-Ok : goal.returns-in-Ok
returns-in-Ok c =
    let a = c.args in
    both-granted unit_decoding units_division units-cut (point_causeless utf16 utf8) a.state a.seg a.head.now a.rest.now a.list.now c.requires
    _ c.tally_both-all.result.size c.tally_both-all.ensures
    a.taken a.out.now _ c.write_both.result c.write_both.ensures _ c.in-Ok.is _ c.enter_both.ensures c.keep.result c.keep.ensures

pub returns-in-Err : goal.returns-in-Err
returns-in-Err c =
    let a = c.args in
    both-refused unit_decoding units_division units-cut (point_causeless utf16 utf8) a.state a.seg a.head.now a.rest.now a.list.now c.requires
    _ c.tally_both-all.result.size c.tally_both-all.ensures
    a.taken a.out.now _ c.write_both.result c.write_both.ensures _ c.in-Err.is
