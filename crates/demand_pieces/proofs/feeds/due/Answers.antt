-- `feeds::due` meets its contract: its tests are those of the checks, in their order.
use native.Mathlib.Omega.{arith}
use Rattle.demand_pieces.proofs.RefusedUnchanged.{tests, due-over, due-list, due-places}
use Rattle.demand_pieces.proofs.feeds.due.Goals as goal

pub overflow_sub-state : goal.overflow_sub-state
overflow_sub-state c = (tests c.args.state c.requires).numbers.within

pub returns-then-state-size : goal.returns-then-state-size
returns-then-state-size c =
    due-over c.args.state c.requires c.args.size c.args.row c.if-state-size.true

pub overflow_mul-state : goal.overflow_mul-state
overflow_mul-state c =
    record { fits = omega (arith, (tests c.args.state c.requires).numbers.roomy) }

pub returns-then-row-state : goal.returns-then-row-state
returns-then-row-state c =
    due-list c.args.state c.requires c.args.size c.args.row c.if-state-size.false c.if-row-state.true

pub returns : goal.returns
returns c =
    due-places c.args.state c.requires c.args.size c.args.row c.if-state-size.false c.if-row-state.false
