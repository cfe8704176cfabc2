-- The walk that finds the greatest suffix and its least period: what it knows, and that each of its steps keeps it.
use mathlib.Core.Path.{◌≡◌, sym, ap, ◌∙◌}
use mathlib.Core.Logic.{inl, inr, ⊎_elim}
use Prim.Native.Nat.{ℕ, zero, suc, ◌+◌, ◌-◌, ◌<◌, ◌≤◌}
use native.Mathlib.Omega.{arith}
use Rattle.theory.proofs.Cases.{under}
use Rattle.find.specs.Inside.Cuts.{Below, Period, Greatest}

-- the letters from i on lose to those from s on at a letter before e
pub record Lost (y : ℕ → ℕ) (e i s : ℕ) : Type 0 where
  pub far : ℕ
  pub tie : (d : ℕ) → d < far → y (i + d) ≡ y (s + d)
  pub less : y (i + far) < y (s + far)
  pub left : i + far < e
  pub right : s + far < e

-- As far as j + k the greatest suffix starts at s and has the period p, and its last whole copy of p letters ends at j.
pub record Grown (y : ℕ → ℕ) (m s j k p : ℕ) : Type 0 where
  pub some : 0 < p
  pub part : k < p
  pub full : s + p ≤ j
  pub inside : j + k ≤ m
  pub period : Period y (j + k) s p
  pub copy : (d : ℕ) → d < p → y (j - p + d) ≡ y (s + d)
  pub inner : (i : ℕ) → s < i → i < s + p → Lost y (s + p) i s
  pub outer : (i : ℕ) → i < s → Lost y m i s

wider : (y : ℕ → ℕ) (e f i s : ℕ) → e ≤ f → Lost y e i s → Lost y f i s
wider y e f i s h w = record { far = w.far; tie = w.tie; less = w.less; left = omega (arith, w.left); right = omega (arith, w.right) }

-- a suffix of one letter, where all that start before it lose
single : (y : ℕ → ℕ) (m s : ℕ) → s < m → ((i : ℕ) → i < s → Lost y m i s) → Grown y m s (s + 1) 0 1
single y m s h lose =
    record {
      some = omega arith;
      part = omega arith;
      full = omega arith;
      inside = omega arith;
      period = λ i a b. absurd (omega arith);
      copy = λ d a. ap y (omega arith);
      inner = λ i a b. absurd (omega arith);
      outer = lose;
    }

pub grown-start : (y : ℕ → ℕ) (m : ℕ) → 0 < m → Grown y m 0 1 0 1
grown-start y m h = single y m 0 h (λ i a. absurd (omega arith))

module _ (y : ℕ → ℕ) (m s j k p : ℕ) (g : Grown y m s j k p) where
  -- a period back, as far as has been read
  back : (i d : ℕ) → s + p ≤ i → i + d < j + k → y (i + d) ≡ y (i - p + d)
  back i d a c = ap y (omega arith) ∙ sym (g.period (i - p + d) (omega arith) (omega arith)) ∙ ap y (omega arith)

  -- the copy that is being read
  tied : (d : ℕ) → d < k → y (j + d) ≡ y (s + d)
  tied d h = back j d g.full (omega arith) ∙ g.copy d (omega (arith, g.part))

  before : y (j - p + k) ≡ y (s + k)
  before = g.copy k g.part

  -- ---- the next letter is that of the copy

  module _ (h : j + k < m) (e : y (j + k) ≡ y (s + k)) where
    longer : Period y (j + k + 1) s p
    longer i a b = under (i + p) (j + k)
        (λ u. g.period i a u)
        (λ u. ap y (omega (arith, g.full, g.part)) ∙ before ∙ sym e ∙ ap y (omega (arith, g.full)))

    pub grown-same : (k + 1 ≡ p → ⊥) → Grown y m s j (k + 1) p
    grown-same n =
        record {
          some = g.some;
          part = omega (arith, g.part);
          full = g.full;
          inside = omega arith;
          period = λ i a b. longer i a (omega arith);
          copy = g.copy;
          inner = g.inner;
          outer = g.outer;
        }

    pub grown-copy : k + 1 ≡ p → Grown y m s (j + p) 0 p
    grown-copy n =
        record {
          some = g.some;
          part = g.some;
          full = omega (arith, g.full);
          inside = omega arith;
          period = λ i a b. longer i a (omega arith);
          copy = λ d a. ap y (omega arith) ∙ under d k (λ u. tied d u) (λ u. ap y (omega arith) ∙ e ∙ ap y (omega arith));
          inner = g.inner;
          outer = g.outer;
        }

  -- ---- it is less: all that has been read is one period

  module _ (h : j + k < m) (e : y (j + k) < y (s + k)) where
    -- the letter that is read is below the one a period before it
    drops : (i : ℕ) → s + p ≤ i → i < j + k + 1 → y (i + (j + k - i)) < y (i - p + (j + k - i))
    drops i a c = omega (arith, ap y (read i c), before, ap y (read-before i a c))
      where
        read : (i : ℕ) → i < j + k + 1 → j + k ≡ i + (j + k - i)
        read i c = omega arith

        read-before : (i : ℕ) → s + p ≤ i → i < j + k + 1 → j - p + k ≡ i - p + (j + k - i)
        read-before i a c = omega (arith, g.full)

    lost-first : (i : ℕ) → i ≡ s + p → i < j + k + 1 → Lost y (j + k + 1) i s
    lost-first i q c =
        record {
          far = j + k - i;
          tie = λ d a. back i d (omega arith) (omega arith) ∙ ap y (omega arith);
          less = omega (arith, drops i (omega arith) c, ap y (same i q));
          left = omega arith;
          right = omega arith;
        }
      where
        same : (i : ℕ) → i ≡ s + p → i - p + (j + k - i) ≡ s + (j + k - i)
        same i q = omega arith

    -- what starts a period later loses at the same letter, or at the one that is read
    lost-next : (i : ℕ) → s + p < i → i < j + k + 1 → Lost y (j + k + 1) (i - p) s → Lost y (j + k + 1) i s
    lost-next i a c w = under (i + w.far) (j + k)
        (λ u. record {
          far = w.far;
          tie = λ d b. back i d (omega arith) (omega arith) ∙ w.tie d b;
          less = omega (arith, back i w.far (omega arith) u, w.less);
          left = omega arith;
          right = w.right;
        })
        (λ u. record {
          far = j + k - i;
          tie = λ d b. back i d (omega arith) (omega arith) ∙ w.tie d (omega arith);
          less = under (j + k - i) w.far
              (λ v. omega (arith, drops i (omega arith) c, w.tie (j + k - i) v))
              (λ v.
              let q : w.far ≡ j + k - i = omega arith in
              omega (arith, drops i (omega arith) c, w.less, ap (λ (d : ℕ). y (i - p + d)) q, ap (λ (d : ℕ). y (s + d)) q));
          left = omega arith;
          right = omega arith;
        })

    all-fall : (n i : ℕ) → i < n → s < i → i < j + k + 1 → Lost y (j + k + 1) i s
    all-fall zero i a b c = absurd (omega arith)
    all-fall (suc n) i a b c = under i (s + p)
        (λ u. wider y (s + p) (j + k + 1) i s (omega (arith, g.full)) (g.inner i b u))
        (λ u. under (s + p) i
        (λ v. lost-next i v c (all-fall n (i - p) (omega (arith, g.some)) (omega arith) (omega arith)))
        (λ v. lost-first i (omega arith) c))

    pub grown-less : Grown y m s (j + k + 1) 0 (j + k + 1 - s)
    grown-less =
        record {
          some = omega (arith, g.full);
          part = omega (arith, g.full);
          full = omega (arith, g.full);
          inside = omega arith;
          period = λ i a b. absurd (omega (arith, g.full));
          copy = λ d a. ap y (omega (arith, g.full));
          inner = λ i a b.
              wider y (j + k + 1) (s + (j + k + 1 - s)) i s (omega (arith, g.full)) (all-fall (suc i) i (omega arith) a (omega (arith, g.full)));
          outer = g.outer;
        }

  -- ---- it is greater: the suffix that starts at the last copy is above all before it

  module _ (h : j + k < m) (e : y (s + k) < y (j + k)) where
    -- what loses to s loses to j
    passes : (f i : ℕ) → i < j → Lost y f i s → Lost y (j + k + 1) i j
    passes f i a w = under w.far k
        (λ u. record {
          far = w.far;
          tie = λ d b. w.tie d b ∙ sym (tied d (omega arith));
          less = omega (arith, w.less, tied w.far u);
          left = omega arith;
          right = omega arith;
        })
        (λ u. record {
          far = k;
          tie = λ d b. w.tie d (omega arith) ∙ sym (tied d b);
          less = under k w.far
              (λ v. omega (arith, w.tie k v))
              (λ v.
              let q : w.far ≡ k = omega arith in
              omega (arith, w.less, ap (λ (d : ℕ). y (i + d)) q, ap (λ (d : ℕ). y (s + d)) q));
          left = omega arith;
          right = omega arith;
        })

    -- s itself
    start-loses : Lost y (j + k + 1) s j
    start-loses = record { far = k; tie = λ d b. sym (tied d b); less = e; left = omega (arith, g.full); right = omega arith }

    -- what starts a period later loses at the same letter
    lost-later : (i : ℕ) → s + p ≤ i → i < j → Lost y (j + k + 1) (i - p) j → Lost y (j + k + 1) i j
    lost-later i a c w =
        record {
          far = w.far;
          tie = λ d b. back i d a (omega (arith, w.right)) ∙ w.tie d b;
          less = omega (arith, back i w.far a (omega (arith, w.right)), w.less);
          left = omega (arith, w.right);
          right = w.right;
        }

    all-lose : (n i : ℕ) → i < n → i < j → Lost y (j + k + 1) i j
    all-lose zero i a c = absurd (omega arith)
    all-lose (suc n) i a c = under i s
        (λ u. passes m i c (g.outer i u))
        (λ u. under i (s + p)
        (λ v. under s i
        (λ w. passes (s + p) i c (g.inner i w v))
        (λ w.
        let q : s ≡ i = omega arith in
        rw (← q) start-loses))
        (λ v. lost-later i v c (all-lose n (i - p) (omega (arith, g.some)) (omega arith))))

    pub grown-more : Grown y m j (j + 1) 0 1
    grown-more = single y m j (omega arith) (λ i a. wider y (j + k + 1) m i j (omega arith) (all-lose (suc i) i (omega arith) a))

  -- ---- all is read

  module _ (h : m ≤ j + k) where
    whole : Period y m s p
    whole i a b = g.period i a (omega (arith, g.inside))

    lost-below : (f i : ℕ) → f ≤ m → Lost y f i s → Below y m i s
    lost-below f i b w = record { far = w.far; tie = w.tie; over = inr (omega (arith, w.left), omega (arith, w.right), w.less) }

    below-first : (i : ℕ) → i ≡ s + p → i < m → Below y m i s
    below-first i q c =
        record {
          far = m - i;
          tie = λ d a. back i d (omega arith) (omega arith) ∙ ap y (omega arith);
          over = inl (omega (arith, g.some));
        }

    below_next : (i : ℕ) → s + p < i → i < m → Below y m (i - p) s → Below y m i s
    below_next i a c w = under (i + w.far) m
        (λ u. record {
          far = w.far;
          tie = λ d b. back i d (omega arith) (omega arith) ∙ w.tie d b;
          over = ⊎_elim
              (λ v. absurd (omega arith))
              (λ v. inr (omega (arith, back i w.far (omega arith) (omega arith))))
              w.over;
        })
        (λ u. record {
          far = m - i;
          tie = λ d b. back i d (omega arith) (omega arith) ∙ w.tie d (omega arith);
          over = inl (omega arith);
        })

    all-below : (n i : ℕ) → i < n → i < m → (i ≡ s → ⊥) → Below y m i s
    all-below zero i a b c = absurd (omega arith)
    all-below (suc n) i a b c = under i s
        (λ u. lost-below m i (omega arith) (g.outer i u))
        (λ u. under i (s + p)
        (λ v. lost-below (s + p) i (omega (arith, g.full, g.inside)) (g.inner i (omega arith) v))
        (λ v. under (s + p) i
        (λ w. below_next i w b (all-below n (i - p) (omega (arith, g.some)) (omega arith) (omega arith)))
        (λ w. below-first i (omega arith) b)))

    -- a shorter period would tie what loses
    none-shorter : (q : ℕ) → 0 < q → q < p → Period y m s q → ⊥
    none-shorter q a b c =
        let w = g.inner (s + q) (omega arith) (omega arith) in
        omega (arith, w.less, c (s + w.far) (omega arith) (omega (arith, w.left, g.full, g.inside)), ap y (same w.far))
      where
        same : (d : ℕ) → s + d + q ≡ s + q + d
        same d = omega arith

    pub grown-end : Greatest y m s p
    grown-end =
        record {
          some = g.some;
          inside = omega (arith, g.full, g.inside);
          greatest = λ i a b. all-below (suc i) i (omega arith) a b;
          period = whole;
          least = none-shorter;
        }
