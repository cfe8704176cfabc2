-- Elements as the numbers that they are: a number for each, in their order.
use Rattle.std.specs.Prelude.{◌≡◌, ℕ, List, ◌++◌, length, take, drop, refl}

pub record Numbers {A : Type 0} (numbers : List A → List ℕ) : Type 0 where
  pub long : (xs : List A) → length (numbers xs) ≡ length xs
  pub taken : (n : ℕ) (xs : List A) → numbers (take n xs) ≡ take n (numbers xs)
  pub dropped : (n : ℕ) (xs : List A) → numbers (drop n xs) ≡ drop n (numbers xs)
  pub same : (xs ys : List A) → numbers xs ≡ numbers ys → xs ≡ ys
  pub joined : (xs ys : List A) → numbers (xs ++ ys) ≡ numbers xs ++ numbers ys

-- those of bytes, units and code points are the elements themselves
pub themselves : Numbers (λ (xs : List ℕ). xs)
themselves = record { same = λ xs ys e. e; long = λ xs. refl; taken = λ n xs. refl; dropped = λ n xs. refl; joined = λ xs ys. refl }
