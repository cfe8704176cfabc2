-- What the demand promises, it promises once: two answers, with what they left in the buffers, are equal.
use mathlib.Core.Path.{◌≡◌, sym, ◌∙◌}
use mathlib.Core.Bool.{Bool}
use Rattle.demand_feeding.specs.Pieces.{Lent, Yes}

pub yes-once : {new new' should : Lent} {r s : Bool} → Yes new should r → Yes new' should s → (r ≡ s) × (new ≡ new')
yes-once a b = (a.yes ∙ sym b.yes, a.buffers ∙ sym b.buffers)
