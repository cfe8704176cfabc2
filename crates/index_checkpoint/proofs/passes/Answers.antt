-- `passes` meets its contract: each arm tests its own measure.
use Rattle.index_checkpoint.proofs.passes.Goals as goal

pub returns-in-Byte : goal.returns-in-Byte
returns-in-Byte c = rw c.in-Byte.is

pub returns-in-Unit : goal.returns-in-Unit
returns-in-Unit c = rw c.in-Unit.is

pub returns-in-Point : goal.returns-in-Point
returns-in-Point c = rw c.in-Point.is

pub returns-in-Line : goal.returns-in-Line
returns-in-Line c = rw c.in-Line.is
