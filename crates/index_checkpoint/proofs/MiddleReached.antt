-- Halving, where the middle is reached without a sum that could overflow.
use mathlib.Core.Path.{◌≡◌, ap, ◌∙◌}
use Prim.Native.Nat.{ℕ, ◌+◌, ◌-◌, ◌/◌, ◌<◌}
use mathlib.Core.Bool.{Bool, true, false}
use native.Mathlib.Omega.{arith}
use Rattle.theory.specs.Index.{halve}
use Rattle.theory.proofs.TrueIndexAnswers.{halve-low, halve-high}

abbrev pub middle : ℕ → ℕ → ℕ
middle low high = low + (high - low) / 2

module _ (t : ℕ → Bool) (low high : ℕ) (h : 1 < high - low) where
  middle-is : (low + high) / 2 ≡ middle low high
  middle-is = omega arith

  -- the middle one passes, and becomes low
  pub halve-up : t (middle low high) ≡ true → halve (high - low) t low high ≡ halve (high - middle low high) t (middle low high) high
  halve-up d = halve-low t low high h (ap t middle-is ∙ d) ∙ ap (λ (i : ℕ). halve (high - i) t i high) middle-is

  -- or it becomes high
  pub halve-down : t (middle low high) ≡ false → halve (high - low) t low high ≡ halve (middle low high - low) t low (middle low high)
  halve-down d = halve-high t low high h (ap t middle-is ∙ d) ∙ ap (λ (i : ℕ). halve (i - low) t low i) middle-is
