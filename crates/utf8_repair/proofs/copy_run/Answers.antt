-- Of no bytes nothing is copied.
use mathlib.Core.Path.{◌≡◌}
use Prim.Native.Nat.{ℕ}
use mathlib.Core.List.{List, [], ◌∷◌, ◌++◌}
use lib.ListN.{length, take, drop}
use lib.Seq.{take-nil}
use native.Mathlib.Omega.{arith}
use Rattle.utf8_repair.proofs.copy_run.Goals as goal

none : (run out : List ℕ) → length run ≡ 0 → out ≡ take (length out) run ++ drop (length run) out
none [] out e = rw take-nil
none (x ∷ xs) out e = absurd (omega arith)

pub returns-then-run-eq0 : goal.returns-then-run-eq0
returns-then-run-eq0 c = let a = c.args in none a.run.now a.out.now c.if-run-eq0.true
