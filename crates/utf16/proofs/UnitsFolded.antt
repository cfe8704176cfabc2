-- A fold over a slice: what it gives is shown first, and then what holds at each step.
use Rattle.std.proofs.Common.{List, [], ◌∷◌, ◌++◌, ◌≡◌, Iter}
use Rattle.std.specs.Iterator.{Drains}
use Rattle.std.specs.Fn.{Called}
use Rattle.std.specs.List.{FoldsTo}
use Rattle.std.proofs.lemmas.Fn.{fold_over, slice_gives, fronts}
use denote.Param.Members.{Mut}
use denote.Ref.{Bor}

module _ {F A C : Type 0} (g : Mut F (C × (Bor A × Unit {0})) C) (f : F) (J : List A → C → Type 0) (s : Iter A) (a r : C) where
  pub folded : (xs : List (Bor A)) × (f' : F) × Drains fronts s xs × FoldsTo {P = F × C} (λ p x q. Called g p.0 (p.1, (x, tt)) q.1 q.0) (f, a) xs (f', r)
      → J [] a
      → ((ys : List A) (b : C) (x : Bor A) (d : C) (f' : F) → J ys b → Called g f (b, (x, tt)) d f' → J (ys ++ x.now ∷ []) d × (f' ≡ f))
      → J s.rest.now r
  folded ran none step = fold_over fronts (λ (y : Bor A). y.now) g J f step s s.rest.now a r (slice_gives s) none ran
