-- `rank` meets its contract.
use Rattle.find.proofs.critical.rank.Goals as goal

pub returns-then-turned : goal.returns-then-turned
returns-then-turned c = rw c.if-turned.true
