-- Entries of an index: how a checkpoint is read.
use mathlib.Core.Path.{◌≡◌, sym, ap, ◌∙◌}
use Prim.Native.Nat.{ℕ, ◌+◌, ◌*◌, ◌/◌, ◌<◌}
use native.Mathlib.Nat.{add-zero}
use mathlib.Core.List.{List, []}
use lib.ListN.{length, get_or, take, drop, drop_of_length-le}
use lib.Seq.{get_or-take, get_or-drop}
use native.Mathlib.Omega.{arith}
use Rattle.place.specs.Measures.{place}
use Rattle.index_checkpoint.specs.Checkpoints.{width, place_of, checkpoint}

-- the numbers from its first on
pub checkpoint_is : (row : List ℕ) (k : ℕ)
    → place (get_or row (width * k) 0) (get_or row (width * k + 1) 0) (get_or row (width * k + 2) 0) (get_or row (width * k + 3) 0) ≡ checkpoint row k
checkpoint_is row k =
    let number : (i : ℕ) → i < width → get_or (take width (drop (width * k) row)) i 0 ≡ get_or row (width * k + i) 0
    = λ i h. get_or-take width (drop (width * k) row) i 0 h ∙ get_or-drop (width * k) row i 0 in
    rw (number 0 (omega arith), number 1 (omega arith), number 2 (omega arith), number 3 (omega arith), add-zero)

-- past the end they are 0
pub checkpoint_past : (row : List ℕ) (k : ℕ) → length row / width < k → place 0 0 0 0 ≡ checkpoint row k
checkpoint_past row k h =
    let none : drop (width * k) row ≡ [] = drop_of_length-le row {i = width * k} (omega arith) in
    ap (λ (l : List ℕ). place_of (take width l)) (sym none)
