-- Whether a checkpoint is usable: the tests, by the first multiple of the spacing at or behind its byte.
use mathlib.Core.Path.{◌≡◌}
use Prim.Native.Nat.{ℕ, ◌+◌, ◌-◌, ◌*◌, ◌/◌, ◌%◌, ◌≤◌, ◌<◌}
use mathlib.Core.Bool.{false, ◌&&◌, and-false}
use lib.Dec.{leb}
use borrow.Author.Tests.{le-leb, lt-leb}
use native.Mathlib.Omega.{arith}
use Rattle.theory.specs.Index.{usable}
use Rattle.theory.proofs.Cases.{under}
use Rattle.place.specs.Measures.{ruler, reader, longest}
use Rattle.place.specs.Walk.{fair}
use Rattle.place.specs.declared.Place.{Place}
use Rattle.index_checkpoint.specs.Checkpoints.{spacing}

-- the number of that multiple
abbrev pub behind : ℕ → ℕ
behind n = n / spacing + (n % spacing + spacing - 1) / spacing

-- how far it is
abbrev pub short : ℕ → ℕ
short n = (spacing - n % spacing) % spacing

module _ (m : Place → ℕ) (o j : ℕ) (q : Place) where
  pub usable-other : (behind q.bytes ≡ j → ⊥) → false ≡ usable reader ruler longest spacing fair m o j q
  usable-other h =
      under (spacing * j) q.bytes
      (λ k. rw (lt-leb q.bytes (spacing * j) k, and-false (leb (spacing * j) (q.bytes + (longest - 1)))))
      (λ k. let far : q.bytes + (longest - 1) < spacing * j = omega arith in rw (lt-leb (spacing * j) (q.bytes + (longest - 1)) far))

  pub usable-far : behind q.bytes ≡ j → longest ≤ short q.bytes → false ≡ usable reader ruler longest spacing fair m o j q
  usable-far h k = rw (lt-leb (spacing * j) (q.bytes + (longest - 1)) (omega arith))

  pub usable-near : behind q.bytes ≡ j → short q.bytes < longest → fair q && leb (m q) o ≡ usable reader ruler longest spacing fair m o j q
  usable-near h k = rw (le-leb (spacing * j) (q.bytes + (longest - 1)) (omega arith), le-leb q.bytes (spacing * j) (omega arith))
