-- Two answers that the promise of a call that builds allows are equal, and they leave the same.
use mathlib.Core.Path.{◌≡◌, sym, ◌∙◌}
use Prim.Native.Nat.{ℕ}
use mathlib.Core.List.{List}
use Rattle.terms.proofs.ToldBack.{told-checked}
use Rattle.index_build.specs.declared.state.Builder.{Builder}
use Rattle.index_build.specs.declared.state.Built as the-built
use Rattle.index_build.specs.Building.{Feeds, Finishes}

pub feeds-once : {b : Builder} {piece row row' row'' : List ℕ} {q r : the-built.Built} → Feeds b piece row row' q → Feeds b piece row row'' r
    → (q ≡ r) × (row' ≡ row'')
feeds-once {q = q} {r = r} f g =
    let a = told-checked q.answer r.answer (f.answer ∙ sym g.answer) in
    let s = f.state ∙ sym g.state in
    (λ i. record { answer = a i; state = s i }, f.checkpoints ∙ sym g.checkpoints)

pub finishes_once : {b : Builder} {row row' row'' : List ℕ} {q r : the-built.Built} → Finishes b row row' q → Finishes b row row'' r
    → (q ≡ r) × (row' ≡ row'')
finishes_once {q = q} {r = r} f g =
    let a = told-checked q.answer r.answer (f.answer ∙ sym g.answer) in
    let s = f.state ∙ sym g.state in
    (λ i. record { answer = a i; state = s i }, f.checkpoints ∙ sym g.checkpoints)
