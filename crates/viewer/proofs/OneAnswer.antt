-- Two replies that the promise of the viewer's repair allows are equal, and they leave the same.
use mathlib.Core.Path.{◌≡◌, sym, ◌∙◌}
use Prim.Native.Nat.{ℕ}
use mathlib.Core.List.{List}
use Rattle.viewer.specs.Replies.{Repairs}

pub repairs_once : {text out out' out'' : List ℕ} {q r : ℕ} → Repairs text out out' q → Repairs text out out'' r → (q ≡ r) × (out' ≡ out'')
repairs_once f g = (f.reply ∙ sym g.reply, f.output ∙ sym g.output)
