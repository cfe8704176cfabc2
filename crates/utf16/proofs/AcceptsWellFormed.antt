-- Strict reading accepts exactly the well-formed texts of units within the limit: well-formed sequences one behind another.
use mathlib.Core.Path.{◌≡◌}
use mathlib.Core.Logic.{◌↔◌}
use Prim.Native.Nat.{ℕ, ◌≤◌}
use mathlib.Core.List.{List, [], ◌∷◌}
use lib.ListN.{length}
use Rattle.theory.specs.Sequence.{WellFormed}
use Rattle.terms.specs.Limits.{limit}
use Rattle.terms.specs.Strict.{check_says}
use Rattle.terms.proofs.ConvertsBack.{check_accepts}
use Rattle.utf16.specs.Units.{rows, units}
use Rattle.utf16.proofs.RowsOfUnits.{units-read}

pub units-accepted : (text : List ℕ) → (check_says units text ≡ 0 ∷ []) ↔ ((length text ≤ limit) × WellFormed rows text)
units-accepted = check_accepts units units-read.accepts
