-- `block` meets its contract: the counts of the bytes passed.
use native.Mathlib.Omega.{arith}
use Rattle.utf8_count.proofs.CountsByBlocks.{counted_none, counted_next, counted-few}
use Rattle.utf8_count.proofs.block.Goals.{At-loop-b}
use Rattle.utf8_count.proofs.block.Goals as goal

pub loop-b-init : goal.loop-b-init
loop-b-init c = counted_none c.args.text.now

pub overflow_add-starts : goal.overflow_add-starts
overflow_add-starts c =
    let n = counted_next c.args.text.now c.loop-b.b-index c.loop-b.starts c.loop-b.fours (omega arith) c.loop-b.invariant in
    omega (arith, c.start_of-starts.ensures, counted-few _ _ _ _ n)

pub overflow_add-fours : goal.overflow_add-fours
overflow_add-fours c =
    let n = counted_next c.args.text.now c.loop-b.b-index c.loop-b.starts c.loop-b.fours (omega arith) c.loop-b.invariant in
    omega (arith, c.four_of-fours.ensures, counted-few _ _ _ _ n)
