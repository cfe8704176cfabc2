-- The boundary before a byte: the one that a step back over later bytes leads to.
use mathlib.Core.Path.{◌≡◌, refl, sym, ap, ◌∙◌}
use Prim.Native.Nat.{ℕ, zero, suc, ◌≤◌, ◌<◌}
use mathlib.Core.Bool.{true, false, true≢false}
use mathlib.Core.List.{List}
use lib.ListN.{get_or}
use native.Mathlib.Omega.{arith}
use Rattle.theory.proofs.Cases.{split, under}
use Rattle.utf8_scan.specs.Stands.{is_later}
use Rattle.index_build.specs.Inside.Summed.{boundary}

-- byte b is the last one at or before n that is no later byte
pub record Bound (text : List ℕ) (n b : ℕ) : Type 0 where
  pub order : b ≤ n
  pub first : is_later (get_or text b 0) ≡ false
  pub others : (k : ℕ) → b < k → k ≤ n → is_later (get_or text k 0) ≡ true

module _ (text : List ℕ) where
  -- at a later byte it is the one before it, and at any other it is that byte
  pub boundary-before : (n : ℕ) → is_later (get_or text (suc n) 0) ≡ true → boundary text (suc n) ≡ boundary text n
  boundary-before n e = rw e

  pub boundary-here : (n : ℕ) → is_later (get_or text n 0) ≡ false → boundary text n ≡ n
  boundary-here zero e = refl
  boundary-here (suc n) e = rw e

  -- a later byte is not the first one
  pub later-behind : is_later (get_or text 0 0) ≡ false → (n : ℕ) → is_later (get_or text n 0) ≡ true → 0 < n
  later-behind f zero e = absurd (true≢false (sym e ∙ f))
  later-behind f (suc n) e = omega arith

  pub boundary-bound : is_later (get_or text 0 0) ≡ false → (n : ℕ) → Bound text n (boundary text n)
  boundary-bound f zero = record { order = omega arith; first = f; others = λ k l h. absurd (omega arith) }
  boundary-bound f (suc n) = split (is_later (get_or text (suc n) 0))
      (λ e.
      let o = boundary-bound f n in
      rw e (record {
        order = omega (arith, o.order);
        first = o.first;
        others = λ k l h. under n k
            (λ j. let i : k ≡ suc n = omega arith in ap (λ (m : ℕ). is_later (get_or text m 0)) i ∙ e)
            (λ j. o.others k l j);
      }))
      (λ e. rw e (record { order = omega arith; first = e; others = λ k l h. absurd (omega arith) }))
