-- Four numbers of a row, one behind another.
use mathlib.Core.Path.{◌≡◌}
use Prim.Native.Nat.{ℕ, suc, ◌+◌, ◌*◌}
use mathlib.Core.List.{List}
use lib.ListN.{set}
use lib.Seq.{sets}
use native.Mathlib.Omega.{arith}
use Rattle.place.specs.Lookup.{four_counts}
use Rattle.place.specs.declared.Place.{Place}
use Rattle.index_checkpoint.specs.Checkpoints.{width}

pub four-written : (row : List ℕ) (k : ℕ) (p : Place)
    → set (set (set (set row (width * k) p.bytes) (width * k + 1) p.units) (width * k + 2) p.points) (width * k + 3) p.lines ≡ sets row (width * k) (four_counts p)
four-written row k p =
    let a : width * k + 1 ≡ suc (width * k) = omega arith in
    let b : width * k + 2 ≡ suc (suc (width * k)) = omega arith in
    let c : width * k + 3 ≡ suc (suc (suc (width * k))) = omega arith in
    rw (a, b, c)
