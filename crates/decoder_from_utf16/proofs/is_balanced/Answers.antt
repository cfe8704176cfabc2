-- Each test that fails is one of the numbers' tests.
use native.Mathlib.Omega.{arith}
use Rattle.decoder_from_utf16.proofs.TestsAsFacts.{unbalanced, balanced-room}
use Rattle.decoder_from_utf16.proofs.is_balanced.Goals as goal

pub returns-then-state-gt-LIMIT : goal.returns-then-state-gt-LIMIT
returns-then-state-gt-LIMIT c = unbalanced c.args.state (λ b. omega arith)

pub returns-then-state : goal.returns-then-state
returns-then-state c = unbalanced c.args.state (λ b. omega arith)

pub returns-then-rest-state : goal.returns-then-rest-state
returns-then-rest-state c = unbalanced c.args.state (λ b. omega arith)

pub returns-then-rest-state-2 : goal.returns-then-rest-state-2
returns-then-rest-state-2 c = unbalanced c.args.state (λ b. omega arith)

pub returns-then-state-2 : goal.returns-then-state-2
returns-then-state-2 c =
    let d = c.args.state in
    unbalanced d (λ b. omega arith)

pub returns : goal.returns
returns c =
    let d = c.args.state in
    balanced-room d (omega arith) (omega arith) (omega arith)
