-- `building::build_in_pieces` meets its contract: after each call the caller has what the course of the calls leaves.
use Rattle.demand_index.proofs.CallByCall.{Along}
use Rattle.demand_index.proofs.building.build_in_pieces.Given as goal

abbrev pub invariant-loop-k : goal.invariant-loop-k
invariant-loop-k l = Along l.text l.cuts l.initial.row l.row l.state l.from l.k
