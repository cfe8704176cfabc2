-- What is below 0x80 stands at its own places; else it is the stride of code points.
use mathlib.Core.Path.{sym}
use lib.Seq.{length-take-le}
use Rattle.convert_from_utf8.proofs.PlacesWalk.{ascii-places}
use Rattle.convert_from_utf8.proofs.pages.Table.put_stride.Goals as goal

pub slice_bounds-copy-end : goal.slice_bounds-copy-end
slice_bounds-copy-end c =
    sym (length-take-le c.near_run-n.result c.args.text.now c.near_run-n.ensures.0)

pub returns-then-n-gt0 : goal.returns-then-n-gt0
returns-then-n-gt0 c =
    ascii-places c.args.self.now.numbers c.args.self.now.is_page c.args.self.now.keeps c.args.text.now c.args.out.now c.near_run-n.result c.near_run-n.ensures.0
    c.near_run-n.ensures.1 c.requires.text_in_bounds c.requires.text_nonzero.1 c.if-n-gt0.true c.copy.new.out c.copy.ensures
