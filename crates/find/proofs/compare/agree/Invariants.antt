-- `agree` meets its contract: what it has passed agrees.
use mathlib.Core.Path.{◌≡◌}
use Prim.Native.Nat.{ℕ, ◌+◌, ◌<◌, ◌≤◌}
use Rattle.find.specs.Inside.Compared.{at}
use Rattle.find.proofs.compare.agree.Given as goal

abbrev pub invariant-loop-i : goal.invariant-loop-i
invariant-loop-i l = (d : ℕ) → d < l.i → l.from ≤ d → at l.entry (l.place + d) ≡ at l.needle d
