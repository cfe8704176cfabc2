-- Rows of numbers: runs written one over another, entries of one width and how they are read back, and the multiples of a spacing.
use mathlib.Core.Path.{◌≡◌, refl, ap, ap₂, ◌∙◌}
use Prim.Native.Nat.{ℕ, zero, suc, ◌+◌, ◌*◌, ◌/◌, ◌≤◌, ◌<◌}
use native.Mathlib.Nat.{add-zero, zero-add, suc-add, mul-suc, mul-zero, mul_comm, not-suc-le-zero, le_trans, le_of_suc-le-suc}
use native.Mathlib.Nat.{mul-le-mul_left, mul-div-le, div-lt_iff_lt-mul, le-div_iff_mul-le}
use mathlib.Core.List.{List, [], ◌∷◌, ◌++◌, append_assoc}
use lib.ListN.{length, take, drop, set, length-append}
use lib.Seq.{set_comm, set-set, sets, sets-eq, take_at, drop-append-add}
use native.Mathlib.Omega.{arith}
use Rattle.theory.specs.Tally.{written}
use Rattle.theory.specs.Index.{tab}
use Rattle.theory.proofs.Cases.{add_swap}

-- ---- the multiples of a spacing: k is at most n / g exactly if g × k is at most n

pub div_in : (g n k : ℕ) → k < suc (n / g) → g * k ≤ n
div_in g n k h = le_trans (mul-le-mul_left g (le_of_suc-le-suc h)) (mul-div-le n g)

module _ (g : ℕ) (pos : zero < g) where
  pub div-out : (n k : ℕ) → n / g < k → n < g * k
  div-out n k h = rw mul_comm ((div-lt_iff_lt-mul pos).0 h)

  pub div-up : (n k : ℕ) → g * k ≤ n → k ≤ n / g
  div-up n k h = (le-div_iff_mul-le pos).1 (rw mul_comm h)

  pub div_mono : (m n : ℕ) → m ≤ n → m / g ≤ n / g
  div_mono m n h = div-up n (m / g) (le_trans (mul-div-le m g) h)

-- ---- runs that are written

module _ {A : Type 0} where
  set-sets : (b : List A) (k : ℕ) (v : A) (i : ℕ) (vs : List A) → k < i → sets (set b k v) i vs ≡ set (sets b i vs) k v
  set-sets b k v i [] h = refl
  set-sets b k v i (a ∷ vs) h = rw (set_comm b k i v a (omega arith)) (set-sets (set b i a) k v (suc i) vs (omega arith))

  -- two runs that do not meet may be written in either order
  pub sets-comm : (b : List A) (j : ℕ) (ws : List A) (i : ℕ) (vs : List A) → j + length ws ≤ i → sets (sets b j ws) i vs ≡ sets (sets b i vs) j ws
  sets-comm b j [] i vs h = refl
  sets-comm b j (w ∷ ws) i vs h = sets-comm (set b j w) (suc j) ws i vs (omega arith) ∙ rw (set-sets b j w i vs (omega arith))

  -- and one run twice is once
  pub sets-sets : (b : List A) (j : ℕ) (vs : List A) → sets (sets b j vs) j vs ≡ sets b j vs
  sets-sets b j [] = refl
  sets-sets b j (v ∷ vs) = rw (← set-sets (set b j v) j v (suc j) vs (omega arith), set-set) (sets-sets (set b j v) (suc j) vs)

  -- a run at the start
  pub sets-start : (b vs : List A) → length vs ≤ length b → sets b zero vs ≡ vs ++ drop (length vs) b
  sets-start b vs h = sets-eq vs b zero (omega arith) ∙ rw zero-add

-- ---- tables: f c, f (c + 1), ..

module _ {E : Type 0} where
  pub tab-length : (c n : ℕ) (f : ℕ → E) → length (tab c n f) ≡ n
  tab-length c zero f = refl
  tab-length c (suc n) f = ap suc (tab-length (suc c) n f)

  pub tab-append : (c n k : ℕ) (f : ℕ → E) → tab c (n + k) f ≡ tab c n f ++ tab (c + n) k f
  tab-append c zero k f = rw (zero-add, add-zero)
  tab-append c (suc n) k f = rw (suc-add, ← add_swap) (ap (λ (r : List E). f c ∷ r) (tab-append (suc c) n k f))

  pub tab-same : (c n : ℕ) (f g : ℕ → E) → ((k : ℕ) → c ≤ k → k < c + n → f k ≡ g k) → tab c n f ≡ tab c n g
  tab-same c zero f g h = refl
  tab-same c (suc n) f g h =
      ap₂ ◌∷◌ (h c (omega arith) (omega arith)) (tab-same (suc c) n f g (λ k a b. h k (omega arith) (omega arith)))

-- ---- entries of one width

module _ {A E : Type 0} (enc : E → List A) (width : ℕ) (fixed : (e : E) → length (enc e) ≡ width) where
  pub written-fixed : (es : List E) → length (written enc es) ≡ width * length es
  written-fixed [] = omega arith
  written-fixed (e ∷ es) = rw (length-append, fixed, mul-suc) (omega (arith, written-fixed es))

  -- entry k, read back
  pub written_at : (k c n : ℕ) (f : ℕ → E) (b : List A) → k < n → take width (drop (width * k) (written enc (tab c n f) ++ b)) ≡ enc (f (c + k))
  written_at k c zero f b h = absurd (not-suc-le-zero h)
  written_at zero c (suc n) f b h =
      rw (mul-zero, add-zero, append_assoc) (take_at (enc (f c)) (written enc (tab (suc c) n f) ++ b) width (fixed (f c)))
  written_at (suc k) c (suc n) f b h =
      let e : width * suc k ≡ length (enc (f c)) + width * k = omega (arith, fixed (f c), mul-suc width k) in
      rw (e, append_assoc, drop-append-add, ← add_swap c k) (written_at k (suc c) n f b (le_of_suc-le-suc h))
