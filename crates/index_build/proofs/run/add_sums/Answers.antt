-- `run::add_sums` meets its contract: no sum goes past the largest number.
use Prim.Native.Nat.{◌≤◌}
use mathlib.Core.Path.{sym}
use lib.ListN.{take}
use lib.Seq.{length-take-le}
use native.Mathlib.Omega.{arith}
use Rattle.utf8_count.specs.Counts.{start_of, four_of}
use Rattle.utf8_count.proofs.CountsByBlocks.{start-few, four-few, total-few}
use Rattle.utf8_count.proofs.LineEndsAdd.{ends-few}
use Rattle.index_build.proofs.run.add_sums.Goals.{After-count-s}
use Rattle.index_build.proofs.run.add_sums.Goals as goal

pub slice_bounds-count-end : goal.slice_bounds-count-end
slice_bounds-count-end c = sym (length-take-le c.args.n c.args.text.now c.requires.inside)

-- what the bytes count
few : (c : After-count-s)
    → let n = c.args.n in
    let s = c.count-s.result in (s.starts ≤ n) × (s.fours ≤ n)
few c =
    let part = take c.args.n c.args.text.now in
    let l = length-take-le c.args.n c.args.text.now c.requires.inside in
    rw c.count-s.ensures (omega (arith, l, total-few start_of start-few part), omega (arith, l, total-few four_of four-few part))

pub overflow_add-result-2 : goal.overflow_add-result-2
overflow_add-result-2 c = omega (arith, few (goal.at.overflow_add-result-2 c).After-count-s)

pub overflow_add-result-3 : goal.overflow_add-result-3
overflow_add-result-3 c = omega (arith, few (goal.at.overflow_add-result-3 c).After-count-s)

pub overflow_add-result-4 : goal.overflow_add-result-4
overflow_add-result-4 c = omega (arith, few (goal.at.overflow_add-result-4 c).After-count-s)

pub overflow_add-result-5 : goal.overflow_add-result-5
overflow_add-result-5 c =
    omega (arith, c.line_ends.ensures, ends-few c.args.n c.args.text.now)

pub returns : goal.returns
returns c =
    rw (c.line_ends.ensures, c.count-s.ensures)
