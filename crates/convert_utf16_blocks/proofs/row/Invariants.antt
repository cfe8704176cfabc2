-- The row is filled as far as the loop has come.
use Rattle.std.proofs.Common.{◌≡◌, ℕ, ◌<◌, length, get_or}
use Rattle.convert_utf16_blocks.proofs.row.Given as goal

abbrev pub invariant-loop-k : goal.invariant-loop-k
invariant-loop-k g l = (length l.row ≡ length l.units) × ((i : ℕ) → i < l.k → goal.F-post g l.f (get_or l.units i 0) (get_or l.row i 0))
