-- A round is fixed by its inputs: any two outcomes that its record allows are equal.
use mathlib.Core.Path.{◌≡◌, sym, ◌∙◌}
use mathlib.Core.Bool.{Bool}
use mathlib.Core.List.{List}
use Prim.Native.Nat.{ℕ}
use Rattle.theory.specs.Table.{Kind}
use Rattle.theory.specs.Tally.{Entry}
use Rattle.terms.specs.Form.{Form}
use Rattle.demand_convert.specs.Rounds.{Round}

pub round_once : {refuse refuse' : Entry Kind → List ℕ} {F G : Form} {text between back between₁ back₁ between₂ back₂ : List ℕ} {r₁ r₂ : Bool}
    → Round refuse refuse' F G text between back between₁ back₁ r₁ → Round refuse refuse' F G text between back between₂ back₂ r₂
    → (r₁ ≡ r₂) × (between₁ ≡ between₂) × (back₁ ≡ back₂)
round_once p q = (p.yes ∙ sym q.yes, p.there ∙ sym q.there, p.returned ∙ sym q.returned)
