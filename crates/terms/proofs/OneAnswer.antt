-- Two answers that the promise of a call that writes allows are equal, and they leave the same; so are two code points told alike.
use mathlib.Core.Path.{◌≡◌, refl, sym, ◌∙◌}
use Prim.Native.Nat.{ℕ}
use mathlib.Core.List.{List, [], ◌∷◌}
use lib.ListN.{get_or}
use Rattle.terms.specs.Writing.{Writes}
use Rattle.terms.specs.declared.Point.{Point}
use Rattle.std.specs.Prelude.{Result}
use Rattle.terms.specs.declared.Refusal.{Refusal}
use Rattle.terms.proofs.ToldBack.{by-back, told-written}

pub writes_once : {says form out out' out'' : List ℕ} {q r : Result ℕ Refusal} → Writes says form out out' q → Writes says form out out'' r
    → (q ≡ r) × (out' ≡ out'')
writes_once {q = q} {r = r} f g = (told-written q r (f.answer ∙ sym g.answer), f.output ∙ sym g.output)

-- a code point is known by its number and how many elements it takes
pub told-point : (p q : Point) → p.number ∷ p.size ∷ [] ≡ q.number ∷ q.size ∷ [] → p ≡ q
told-point = by-back (λ p. p.number ∷ p.size ∷ []) (λ l. record { number = get_or l 0 0; size = get_or l 1 0 }) (λ p. refl)
