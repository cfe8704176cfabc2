-- A run that is copied is its own form; else some bytes are put.
use mathlib.Core.Path.{sym}
use Prim.Native.Nat.{◌≤◌, ◌<◌}
use lib.ListN.{length}
use lib.Seq.{length-take-le}
use native.Mathlib.Omega.{arith}
use Rattle.convert_from_page.proofs.PageStrides.{run_long, run-passes, some-room, some-passes}
use Rattle.convert_from_page.proofs.numbers.Table.stride.Goals.{After-min-m, After-min-near}
use Rattle.convert_from_page.proofs.numbers.Table.stride.Goals as goal

-- what is looked at is of the text
near : (c : After-min-near) → c.min-near.result ≤ length c.args.text.now
near c = omega (arith, c.min-near.ensures)

pub slice_bounds-run-end : goal.slice_bounds-run-end
slice_bounds-run-end c =
    sym (length-take-le c.min-near.result c.args.text.now (near c))

pub slice_bounds-copy-end : goal.slice_bounds-copy-end
slice_bounds-copy-end c =
    sym (run_long c.args.self.now.numbers c.args.text.now c.args.out.now c.requires.text_in_bounds c.args.self.now.keeps c.min-near.result (near (goal.at.slice_bounds-copy-end c).After-min-near) c.run-n.result c.run-n.ensures)

pub returns-then-n-gt0 : goal.returns-then-n-gt0
returns-then-n-gt0 c =
    run-passes c.args.self.now.numbers c.args.text.now c.args.out.now c.requires.text_in_bounds c.args.self.now.keeps c.min-near.result (near (goal.at.returns-then-n-gt0 c).After-min-near) c.run-n.result c.run-n.ensures
    c.if-n-gt0.true c.copy.new.out c.copy.ensures

-- some bytes, and of the text
few : (c : After-min-m)
    → let text = c.args.text.now in
    (0 < c.min-m.result) × (c.min-m.result ≤ length text)
few c =
    (omega (arith, c.min-m.ensures, c.requires.text_nonzero), omega (arith, c.min-m.ensures))

pub slice_bounds-put_some-end : goal.slice_bounds-put_some-end
slice_bounds-put_some-end c =
    sym (length-take-le c.min-m.result c.args.text.now (few c).1)

pub put_some-put-requires : goal.put_some-put-requires
put_some-put-requires c =
    let f = few (goal.at.put_some-put-requires c).After-min-m in
    let met = some-room c.args.self.now.numbers c.args.text.now c.args.out.now c.requires.text_in_bounds c.min-m.result f.0 f.1 in
    record { text_nonzero = met.0; text_in_bounds = met.1 }

pub returns : goal.returns
returns c =
    some-passes c.args.self.now.numbers c.args.text.now c.args.out.now c.requires.text_in_bounds c.min-m.result (few (goal.at.returns c).After-min-m).0 (few (goal.at.returns c).After-min-m).1
    c.put_some-put.new.out c.put_some-put.result c.put_some-put.ensures
