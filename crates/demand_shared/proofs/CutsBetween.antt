-- A cut position that is brought lies between the previous one and the end.
use Prim.Native.Nat.{ℕ, ◌≤◌}
use native.Mathlib.Nat.{le_refl}
use lib.Dec.{ltb}
use borrow.Author.Tests.{ltb-false}
use Rattle.theory.proofs.Cases.{split}
use Rattle.demand_shared.specs.Cuts.{bring}

module _ (c from end : ℕ) (h : from ≤ end) where
  pub bring-from : from ≤ bring c from end
  bring-from = split (ltb c from)
      (λ e. rw e (le_refl from))
      (λ e. split (ltb end c) (λ f. rw (e, f) h) (λ f. rw (e, f) (ltb-false c from e)))

  pub bring-end : bring c from end ≤ end
  bring-end = split (ltb c from)
      (λ e. rw e h)
      (λ e. split (ltb end c) (λ f. rw (e, f) (le_refl end)) (λ f. rw (e, f) (ltb-false end c f)))
