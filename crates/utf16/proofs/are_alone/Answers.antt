-- The answer of the units passed is whether they are alone.
use Rattle.std.proofs.Common.{◌≡◌, List, ℕ, Bool, ◌&&◌, ◌∙◌, refl, rules}
use Rattle.utf16.specs.Alone.{alone, all_alone}
use Rattle.utf16.proofs.AloneDivides.{alone-next}
use Rattle.utf16.proofs.UnitsFolded.{folded}
use Rattle.utf16.proofs.are_alone.Goals as goal

pub returns : goal.returns
returns c =
    rw (← c.iter.ensures.rest)
    (folded _ tt (λ (ys : List ℕ) (b : Bool). b ≡ all_alone ys) c.iter.result _ c.fold.result c.fold.ensures.ran refl
    (λ ys b x d f' e k. let s : d ≡ b && alone x.now = search rules in (s ∙ rw (alone-next ys x.now, e), refl)))
