-- Two answers that the promise of the watched text allows are equal, and they leave the same.
use mathlib.Core.Path.{◌≡◌, sym, ◌∙◌}
use Prim.Native.Nat.{ℕ}
use mathlib.Core.Bool.{Bool}
use mathlib.Core.List.{List}
use Rattle.demand_watch.specs.Watching.{Watches}

pub watches-once : {room : ℕ} {text out list out' out'' list' list'' : List ℕ} {q r : Bool} → Watches room text out list out' list' q
    → Watches room text out list out'' list'' r → (q ≡ r) × (out' ≡ out'') × (list' ≡ list'')
watches-once f g = (f.yes ∙ sym g.yes, f.output ∙ sym g.output, f.entries ∙ sym g.entries)
