-- Bytes below 0x80 are their own code points; else the first one is put.
use mathlib.Core.Path.{◌≡◌, sym}
use lib.ListN.{length, take}
use lib.Seq.{length-take-le}
use Rattle.convert_from_utf8.proofs.StepsWalk.{room-one, one-steps, room-ascii, ascii-steps}
use Rattle.convert_from_utf8.proofs.points.step.Goals.{After-ascii_front-n}
use Rattle.convert_from_utf8.proofs.points.step.Goals as goal

-- the part that is handed on has as many bytes
long : (c : After-ascii_front-n) → length (take c.ascii_front-n.result c.args.text.now) ≡ c.ascii_front-n.result
long c = length-take-le c.ascii_front-n.result c.args.text.now c.ascii_front-n.ensures.0

pub slice_bounds-widen-end : goal.slice_bounds-widen-end
slice_bounds-widen-end c = sym (long (goal.at.slice_bounds-widen-end c).After-ascii_front-n)

pub widen-requires : goal.widen-requires
widen-requires c =
    rw (long (goal.at.widen-requires c).After-ascii_front-n) (room-ascii c.args.text.now c.requires.text_nonzero.1 c.args.out.now c.requires.text_in_bounds c.ascii_front-n.result c.ascii_front-n.ensures.0 c.ascii_front-n.ensures.1)

pub returns-then-n-gt0 : goal.returns-then-n-gt0
returns-then-n-gt0 c =
    ascii-steps c.args.text.now c.requires.text_nonzero.1 c.args.out.now c.requires.text_in_bounds c.ascii_front-n.result c.ascii_front-n.ensures.0 c.ascii_front-n.ensures.1
    c.if-n-gt0.true c.widen.new.out (rw (long (goal.at.returns-then-n-gt0 c).After-ascii_front-n) at c.widen.ensures)

pub bounds-out-0 : goal.bounds-out-0
bounds-out-0 c =
    room-one c.args.text.now c.requires.text_nonzero.1 c.args.out.now c.requires.text_in_bounds c.requires.text_nonzero.0 _ _ c.first_point-p.ensures

pub returns : goal.returns
returns c =
    one-steps c.args.text.now c.requires.text_nonzero.1 c.args.out.now c.requires.text_in_bounds c.requires.text_nonzero.0 _ _ c.first_point-p.ensures
