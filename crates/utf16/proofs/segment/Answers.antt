-- `segment` meets its contract: each arm is a law of `Reading`.
use mathlib.Core.Logic.{inl, inr}
use native.Mathlib.Omega.{arith}
use Rattle.terms.proofs.WalkBySegments.{says_nothing}
use Rattle.utf16.specs.Units.{units}
use Rattle.utf16.proofs.ReaderTells.{reads_whole, reads_second, reads-ended, reads-stopped, reads-pair}
use Rattle.utf16.proofs.segment.Goals as goal

pub returns-then-text-eq0 : goal.returns-then-text-eq0
returns-then-text-eq0 c = says_nothing units c.args.text.now c.if-text-eq0.true

pub returns-then-x-lt55296 : goal.returns-then-x-lt55296
returns-then-x-lt55296 c = reads_whole c.args.text.now (omega arith) (inl (omega arith))

-- a unit is below 0x10000
pub returns-then-x-gt57343 : goal.returns-then-x-gt57343
returns-then-x-gt57343 c = reads_whole c.args.text.now (omega arith) (inr (omega arith, omega (arith, c.type_inv.text 0)))

pub returns-then-x-gt56319 : goal.returns-then-x-gt56319
returns-then-x-gt56319 c = reads_second c.args.text.now (omega arith) (omega arith)

pub returns-then-text-lt2 : goal.returns-then-text-lt2
returns-then-text-lt2 c = reads-ended c.args.text.now (omega arith) (omega arith) (omega arith)

pub returns-then-y-lt56320 : goal.returns-then-y-lt56320
returns-then-y-lt56320 c = reads-stopped c.args.text.now (omega arith) (omega arith) (omega arith) (λ h. omega arith)

pub returns-then-y-gt57343 : goal.returns-then-y-gt57343
returns-then-y-gt57343 c = reads-stopped c.args.text.now (omega arith) (omega arith) (omega arith) (λ h. omega arith)

pub returns : goal.returns
returns c = reads-pair c.args.text.now (omega arith) (omega arith) (omega arith) (omega arith)
