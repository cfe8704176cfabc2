-- `number_at` meets its contract: a number of 32 bits fits.
use native.Mathlib.Omega.{arith}
use Rattle.index_checkpoint.proofs.number_at.Goals as goal

pub overflow_cast-result : goal.overflow_cast-result
overflow_cast-result c = omega arith
