-- What finish tells loses nothing: two answers that tell the same are equal.
use mathlib.Core.Path.{◌≡◌, refl}
use mathlib.Core.List.{[], ◌∷◌}
use lib.ListN.{get_or}
use Rattle.std.specs.Prelude.{Result}
use Rattle.terms.specs.declared.Refusal.{Refusal}
use Rattle.terms.proofs.ToldBack.{told_lem}
use Rattle.decoder_shared.specs.Calls.{told_total}
use Rattle.decoder_shared.specs.declared.Totals.{Totals}

pub told-total : (a b : Result Totals Refusal) → told_total a ≡ told_total b → a ≡ b
told-total =
    told_lem (λ (t : Totals). t.written ∷ t.whole ∷ t.damaged ∷ t.count ∷ [])
    (λ l. record { written = get_or l 1 0; whole = get_or l 2 0; damaged = get_or l 3 0; count = get_or l 4 0 }) (λ _. refl)
