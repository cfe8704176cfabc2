-- Each arm is what the definition says of its refusal.
use Rattle.demand_convert.proofs.due_back.Goals as goal

pub returns-in-OverLimit : goal.returns-in-OverLimit
returns-in-OverLimit c = rw c.in-OverLimit.is

pub returns-in-NoRoom : goal.returns-in-NoRoom
returns-in-NoRoom c = rw c.in-NoRoom.is
