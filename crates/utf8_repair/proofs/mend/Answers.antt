-- Each arm is a law of what the segment takes: a whole one its own bytes, a damage those of U+FFFD.
use mathlib.Core.Path.{sym}
use lib.Seq.{length-take-le}
use Rattle.terms.proofs.PointTold.{Pointed, point-whole}
use Rattle.utf8.specs.Scalar.{utf8}
use Rattle.utf8.proofs.RowsOfBytes.{bytes_division}
use Rattle.utf8_repair.proofs.SegmentsMended.{damaged, whole_room, whole-passes, damage-room, damage-passes}
use Rattle.utf8_repair.proofs.mend.Goals.{In-Whole, In-Damage}
use Rattle.utf8_repair.proofs.mend.Goals as goal

-- a whole segment
pointed : (c : In-Whole) → Pointed utf8 c.args.text.now c.in-Whole.n
pointed c = point-whole utf8 bytes_division c.args.text.now _ c.requires.told _ c.in-Whole.is

pub slice_bounds-pass-end : goal.slice_bounds-pass-end
slice_bounds-pass-end c = sym (length-take-le _ _ (pointed (goal.at.slice_bounds-pass-end c).In-Whole).inside)

pub pass-requires : goal.pass-requires
pass-requires c =
    whole_room c.args.text.now c.requires.text_nonzero.0 _ (pointed (goal.at.pass-requires c).In-Whole) c.args.out.now c.requires.text_nonzero.1

pub mark-requires : goal.mark-requires
mark-requires c =
    let text = c.args.text.now in
    damage-room text c.requires.text_nonzero.0 _ (damaged text c.args.seg c.requires.told c.in-Damage.is) c.args.out.now c.requires.text_nonzero.1

pub returns-in-Whole : goal.returns-in-Whole
returns-in-Whole c =
    rw c.in-Whole.is
    (whole-passes c.args.text.now c.requires.text_nonzero.0 _ (pointed (goal.at.returns-in-Whole c).In-Whole) c.args.out.now _ _ c.pass.ensures)

pub returns-in-Damage : goal.returns-in-Damage
returns-in-Damage c =
    let text = c.args.text.now in
    damage-passes text c.requires.text_nonzero.0 _ (damaged text c.args.seg c.requires.told c.in-Damage.is) c.args.out.now _ _ c.mark.ensures
