-- `feeds::try_over` meets its contract: the copy passes its tests, and has taken all that it may.
use native.Mathlib.Omega.{arith}
use Rattle.demand_pieces.proofs.RefusedUnchanged.{tests, over-refused}
use Rattle.demand_pieces.proofs.feeds.try_over.Goals as goal

pub overflow_sub-copy : goal.overflow_sub-copy
overflow_sub-copy c = (tests c.args.state c.requires).numbers.within

pub overflow_add-copy : goal.overflow_add-copy
overflow_add-copy c =
    let b = (tests c.args.state c.requires).numbers in
    record { fits = omega (arith, b.sum, b.within) }

pub is_refused-requires : goal.is_refused-requires
is_refused-requires c =
    (omega arith, over-refused c.args.state c.requires c.args.out.now c.args.list.now, omega arith)
