-- Strict reading accepts exactly the well-formed texts of bytes within the limit: well-formed sequences one behind another.
use mathlib.Core.Path.{◌≡◌}
use mathlib.Core.Logic.{◌↔◌}
use Prim.Native.Nat.{ℕ, ◌≤◌}
use mathlib.Core.List.{List, [], ◌∷◌}
use lib.ListN.{length}
use Rattle.theory.specs.Sequence.{WellFormed}
use Rattle.terms.specs.Limits.{limit}
use Rattle.terms.specs.Strict.{check_says}
use Rattle.terms.proofs.ConvertsBack.{check_accepts}
use Rattle.utf8.specs.Bytes.{rows, bytes}
use Rattle.utf8.proofs.RowsOfBytes.{bytes_read}

pub bytes-accepted : (text : List ℕ) → (check_says bytes text ≡ 0 ∷ []) ↔ ((length text ≤ limit) × WellFormed rows text)
bytes-accepted = check_accepts bytes bytes_read.accepts
