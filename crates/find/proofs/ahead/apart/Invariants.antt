-- `apart` meets its contract: where the bytes were not apart, nothing differs.
use mathlib.Core.Path.{◌≡◌}
use Prim.Native.Nat.{ℕ, ◌<◌}
use lib.ListN.{length}
use Rattle.find.specs.Inside.Compared.{at}
use Rattle.find.proofs.ahead.apart.Given as goal

abbrev pub invariant-loop-x : goal.invariant-loop-x
invariant-loop-x l = (j : ℕ) → j < length l.yielded → at l.first j ≡ l.a → at l.second j ≡ l.b → l.least ≡ 0
