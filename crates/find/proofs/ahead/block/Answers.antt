-- `block` meets its contract.
use native.Mathlib.Omega.{arith}
use Rattle.find.proofs.ahead.block.Goals as goal

pub returns-then-apart : goal.returns-then-apart
returns-then-apart c = (c.apart.ensures c.if-apart.true, omega arith)

pub returns-then-size-gt64 : goal.returns-then-size-gt64
returns-then-size-gt64 c = ((λ k h. absurd (omega arith)), omega arith)
