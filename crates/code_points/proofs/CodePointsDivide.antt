-- Code points are a division and a faithful form, and what the reader tells of the number that stands first.
use mathlib.Core.Path.{◌≡◌, refl, sym, ◌∙◌}
use Prim.Native.Nat.{ℕ, ◌<◌}
use mathlib.Core.Bool.{true, false}
use mathlib.Core.List.{List}
use Rattle.theory.specs.Table.{foreign}
use lib.ListN.{length, get_or}
use native.Mathlib.Omega.{arith}
use Rattle.theory.proofs.Cases.{split}
use Rattle.theory.proofs.Divisions.{Division, cut-cons}
use Rattle.terms.specs.Form.{is_scalar}
use Rattle.terms.specs.Told.{told_first, first_says}
use Rattle.terms.specs.declared.First.TheVariants.{Whole, Damage}
use Rattle.terms.proofs.FaithfulForms.{Faithful}
use Rattle.terms.proofs.WalkBySegments.{says-look}
use Rattle.code_points.specs.Points.{points, code_points}

pub points_division : Division points
unfolding points
points_division = record { fits = λ x xs. omega arith; stable = λ x xs ys s. refl }

-- CODE POINTS ARE A FAITHFUL FORM
pub points-faithful : Faithful code_points
unfolding points
points-faithful = record {
  reads = record { division = points_division; scalar = λ x xs w. split (is_scalar x) (λ s. s) (λ s. cc); again = λ x xs w. refl };
  spells = record { back = λ c s. refl; firm = λ c s ys. cut-cons points c ys ∙ rw s };
}

-- what is told of a text that is not empty
module _ (text : List ℕ) (some-there : 0 < length text) where
  pub first-scalar : is_scalar (get_or text 0 0) ≡ true → told_first (Whole 1) ≡ first_says points text
  unfolding points
  first-scalar s = sym (says-look points text some-there ∙ rw s)

  pub first-other : is_scalar (get_or text 0 0) ≡ false → told_first (Damage 1 (record { 0 = foreign })) ≡ first_says points text
  unfolding points
  first-other s = sym (says-look points text some-there ∙ rw s)
