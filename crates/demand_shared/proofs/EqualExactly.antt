-- The comparison: it says yes exactly of a list and itself.
use mathlib.Core.Path.{◌≡◌, refl, sym, ap, ap₂, ◌∙◌}
use Prim.Native.Nat.{ℕ}
use mathlib.Core.Bool.{Bool, true, true≢false}
use mathlib.Core.Logic.{◌↔◌}
use mathlib.Core.List.{List, [], ◌∷◌}
use lib.Dec.{eqb}
use borrow.Author.Tests.{eq-eqb, eqb-true}
use Rattle.theory.proofs.Cases.{split, both}
use Rattle.demand_shared.specs.Equal.{equal}

pub equal-same : (xs : List ℕ) → equal xs xs ≡ true
equal-same [] = refl
equal-same (x ∷ xs) = rw (eq-eqb x x refl) (equal-same xs)

pub equal-yes : (xs ys : List ℕ) → xs ≡ ys → equal xs ys ≡ true
equal-yes xs ys e = ap (equal xs) (sym e) ∙ equal-same xs

-- and only of these
pub equal-only : (xs ys : List ℕ) → equal xs ys ≡ true → xs ≡ ys
equal-only [] [] e = refl
equal-only [] (y ∷ ys) e = absurd (true≢false (sym e))
equal-only (x ∷ xs) [] e = absurd (true≢false (sym e))
equal-only (x ∷ xs) (y ∷ ys) e =
    let b = both (eqb x y) (equal xs ys) e in
    ap₂ (λ (n : ℕ) (l : List ℕ). n ∷ l) (eqb-true x y b.0) (equal-only xs ys b.1)

-- so a test that says yes exactly of what is the same is the comparison
pub compared : {r : Bool} (xs ys : List ℕ) → (r ≡ true) ↔ (xs ≡ ys) → r ≡ equal xs ys
compared {r} xs ys h = split r
    (λ e. e ∙ sym (equal-yes xs ys (h.0 e)))
    (λ e. e ∙ split (equal xs ys) (λ f. absurd (true≢false (sym (h.1 (equal-only xs ys f)) ∙ e))) (λ f. sym f))
