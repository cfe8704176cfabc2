-- A ascii run is its own units; any other stride is one of sequences alike.
use mathlib.Core.Path.{◌≡◌, sym}
use lib.ListN.{length, take}
use lib.Seq.{length-take-le}
use native.Mathlib.Omega.{arith}
use Rattle.convert_from_utf8.proofs.StridesWalk.{ascii-room, ascii_strides}
use Rattle.convert_from_utf8.proofs.spelling.stride.Goals as goal

pub slice_bounds-widen-end : goal.slice_bounds-widen-end
slice_bounds-widen-end c =
    sym (length-take-le c.expected_run-n.result c.args.text.now c.expected_run-n.ensures.0)

pub widen-requires : goal.widen-requires
widen-requires c =
    omega (arith, ascii-room c.args.text.now c.expected_run-n.result c.expected_run-n.ensures.0 c.expected_run-n.ensures.1, c.requires.text_in_bounds)

pub returns : goal.returns
returns c =
    let text = c.args.text.now in
    let k : length (take c.expected_run-n.result text) ≡ c.expected_run-n.result = length-take-le c.expected_run-n.result text c.expected_run-n.ensures.0 in
    ascii_strides text c.args.out.now c.widen.new.out c.expected_run-n.result c.expected_run-n.ensures.0 c.if-n-eq0.false c.expected_run-n.ensures.1
    (rw k at c.widen.ensures)
