-- Two replies that the promise of a call that tells allows are equal, and they leave the same.
use mathlib.Core.Path.{◌≡◌, sym, ◌∙◌}
use Prim.Native.Nat.{ℕ}
use mathlib.Core.Bool.{Bool}
use mathlib.Core.List.{List}
use Rattle.bridge_numbers.specs.Telling.{Tells}
use Rattle.bridge_numbers.specs.Writing.{Writes}

pub tells_once : {called : Bool} {said says says' says'' : List ℕ} {q r : ℕ} → Tells called said says says' q → Tells called said says says'' r
    → (q ≡ r) × (says' ≡ says'')
tells_once f g = (f.reply ∙ sym g.reply, f.told ∙ sym g.told)

pub writes_once : {called : Bool} {said form out out' out'' says says' says'' : List ℕ} {q r : ℕ}
    → Writes called said form out out' says says' q → Writes called said form out out'' says says'' r
    → (q ≡ r) × (out' ≡ out'') × (says' ≡ says'')
writes_once f g =
    let t = tells_once f.tells g.tells in
    (t.0, f.output ∙ sym g.output, t.1)
