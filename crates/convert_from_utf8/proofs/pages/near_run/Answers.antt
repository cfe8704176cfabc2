-- What is below 0x80 in the part is so in the text.
use mathlib.Core.Path.{◌≡◌, sym}
use lib.ListN.{length, take}
use lib.Seq.{length-take-le}
use native.Mathlib.Omega.{arith}
use Rattle.ascii.specs.Ascii.{run_of}
use Rattle.ascii.proofs.Leading.{run-few, run-ascii}
use Rattle.convert_from_utf8.proofs.AsciiBeginning.{ascii-part}
use Rattle.convert_from_utf8.proofs.pages.near_run.Goals.{After-min-near}
use Rattle.convert_from_utf8.proofs.pages.near_run.Goals as goal

-- the part is as long as was asked
long : (c : After-min-near) → length (take c.min-near.result c.args.text.now) ≡ c.min-near.result
long c = length-take-le c.min-near.result c.args.text.now (omega (arith, c.min-near.ensures))

pub slice_bounds-run-end : goal.slice_bounds-run-end
slice_bounds-run-end c = sym (long c)

pub returns : goal.returns
returns c =
    let text = c.args.text.now in
    let part = take c.min-near.result text in
    rw c.run.ensures (omega (arith, run-few part, long (goal.at.returns c).After-min-near, c.min-near.ensures), ascii-part text c.min-near.result (run_of part) (run-few part) (run-ascii part))
