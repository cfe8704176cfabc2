-- One test more before a call that writes: where it fails nothing is called, and where it passes all is as without it.
use mathlib.Core.Path.{◌≡◌, refl}
use Prim.Native.Nat.{ℕ}
use mathlib.Core.Bool.{Bool, true, false, ◌&&◌}
use mathlib.Core.List.{List}
use Rattle.bridge_numbers.specs.Telling.{not_called}
use Rattle.bridge_numbers.specs.Writing.{Writes}

pub unasked : {a : Bool} (b : Bool) {said form out says : List ℕ} → a ≡ false → Writes (a && b) said form out out says says not_called
unasked b e = rw e (record { tells = record { reply = refl; told = refl }; output = refl })

pub asked : {a b : Bool} {said form out out' says says' : List ℕ} {r : ℕ} → a ≡ true → Writes b said form out out' says says' r
    → Writes (a && b) said form out out' says says' r
asked e w = rw e w
