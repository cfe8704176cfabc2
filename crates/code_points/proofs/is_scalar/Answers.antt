-- `is_scalar` meets its contract: each way through its tests says which of the definition's tests hold.
use native.Mathlib.Omega.{arith}
use borrow.Author.Tests.{lt-ltb, le-ltb}
use Rattle.code_points.proofs.is_scalar.Goals as goal

pub returns-then-c-lt55296 : goal.returns-then-c-lt55296
returns-then-c-lt55296 c = rw (lt-ltb c.args.c 0xD800 (omega arith))

pub returns-then-c-gt57343 : goal.returns-then-c-gt57343
returns-then-c-gt57343 c = let x = c.args.c in rw (le-ltb x 0xD800 (omega arith), lt-ltb 0xDFFF x (omega arith))

pub returns-else-c-gt57343 : goal.returns-else-c-gt57343
returns-else-c-gt57343 c = let x = c.args.c in rw (le-ltb x 0xD800 (omega arith), le-ltb 0xDFFF x (omega arith))
