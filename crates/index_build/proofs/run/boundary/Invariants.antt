-- `run::boundary` meets its contract: the boundary before the byte is that before the one reached.
use Prim.Native.Nat.{◌≤◌}
use mathlib.Core.Path.{◌≡◌}
use Rattle.index_build.specs.Inside.Summed.{boundary}
use Rattle.index_build.proofs.run.boundary.Given as goal

abbrev pub invariant-loop-b : goal.invariant-loop-b
invariant-loop-b l = (l.b ≤ l.n) × (boundary l.text l.n ≡ boundary l.text l.b)

abbrev pub decreases-loop-b : goal.decreases-loop-b
decreases-loop-b l = l.b
