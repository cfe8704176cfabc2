-- THE CRITICAL FACTORIZATION THEOREM: each repetition around the later of the two greatest suffixes' starts is longer than what stands
-- before it, and is a period from there on; so that this start is a cut that a two-way search can lean on.
use mathlib.Core.Path.{◌≡◌, sym, ap, ◌∙◌, subst}
use mathlib.Core.Bool.{Bool, true, false, not}
use mathlib.Core.Logic.{◌⊎◌, inl, inr, ⊎_elim}
use Prim.Native.Nat.{ℕ, zero, suc, ◌+◌, ◌-◌, ◌<◌, ◌≤◌}
use native.Mathlib.Omega.{arith}
use Rattle.theory.proofs.Cases.{under}
use Rattle.find.specs.Inside.Cuts.{rank_of, ranked, Below, Period, Greatest, Rep, Cut}

-- the letters from i on are not below those from s on and above them as well
asym : (y : ℕ → ℕ) (m i s : ℕ) → Below y m i s → Below y m s i → ⊥
asym y m i s b c = under b.far c.far less (λ h. under c.far b.far more (λ k. same (omega arith)))
  where
    less : b.far < c.far → ⊥
    less h =
        ⊎_elim (λ u. ⊎_elim (λ v. omega arith) (λ v. omega arith) c.over)
        (λ u. omega (arith, c.tie b.far h)) b.over

    more : c.far < b.far → ⊥
    more h =
        ⊎_elim (λ u. ⊎_elim (λ v. omega arith) (λ v. omega arith) b.over)
        (λ u. omega (arith, b.tie c.far h)) c.over

    same : b.far ≡ c.far → ⊥
    same e =
        ⊎_elim (λ u. ⊎_elim (λ v. omega arith) (λ v. omega arith) c.over)
        (λ u. ⊎_elim (λ v. omega arith)
        (λ v. omega (arith, ap (λ (d : ℕ). y (s + d)) e, ap (λ (d : ℕ). y (i + d)) e)) c.over) b.over

-- the suffix that starts at l is above every other of m letters
abbrev Top : (ℕ → ℕ) → ℕ → ℕ → Type 0
Top y m l = (i : ℕ) → i < m → (i ≡ l → ⊥) → Below y m i l

-- ---- a repetition around the start of the greatest suffix is longer than what stands before it

module _ (y : ℕ → ℕ) (m l r : ℕ) (top : Top y m l) (inside : l < m) (some : 0 < r) (rep : Rep y m l r) where
  module _ (short : r ≤ l) where
    below : Below y m (l - r) l
    below = top (l - r) (omega arith) (omega arith)

    tied : (d : ℕ) → d < r → l + d < m → y (l + d) ≡ y (l - r + d)
    tied d a b = ap y (omega arith) ∙ sym (rep (l - r + d) (omega arith) (omega arith) (omega arith))

    -- the letters from l on go on behind the repetition: what starts there would be above them
    goes_on : l + r < m → ⊥
    goes_on f =
        let b = top (l + r) f (omega arith) in
        asym y m (l - r) l below
        (record {
          far = r + b.far;
          tie = λ d n. under d r (λ u. tied d u (omega arith)) (λ u. ap y (omega arith) ∙ b.tie (d - r) (omega arith) ∙ ap y (omega arith));
          over =
              ⊎_elim
              (λ u. inl (omega arith))
              (λ u. inr (omega (arith, ap y (behind b.far), ap y (before b.far))))
              b.over;
        })
      where
        behind : (d : ℕ) → l + r + d ≡ l + (r + d)
        behind d = omega arith

        before : (d : ℕ) → l + d ≡ l - r + (r + d)
        before d = omega arith

    ends : m ≤ l + r → ⊥
    ends f = asym y m (l - r) l below (record { far = m - l; tie = λ d n. tied d (omega arith) (omega arith); over = inl (omega arith) })

  rep-long : l < r
  rep-long = under l r (λ k. k) (λ k. absurd (under (l + r) m (goes_on k) (ends k)))

rank_same : (turned : Bool) (a b : ℕ) → a < 256 → b < 256 → rank_of turned a ≡ rank_of turned b → a ≡ b
rank_same true a b h k e = omega arith
rank_same false a b h k e = e

rank_turned : (turned : Bool) (a b : ℕ) → rank_of turned a < rank_of turned b → rank_of (not turned) a < rank_of (not turned) b → ⊥
rank_turned true a b h k = omega arith
rank_turned false a b h k = omega arith

-- ---- where the greatest suffix in the order turned round starts no later, such a repetition is a period from the start on

module _ (x : ℕ → ℕ) (m : ℕ) (small : (i : ℕ) → x i < 256) (turned : Bool) (l t : ℕ) (before : t ≤ l)
    (top : Top (ranked turned x) m l) (other : Top (ranked (not turned) x) m t)
    (r : ℕ) (some : 0 < r) (long : l < r) (rep : Rep x m l r) where
  unranked : (v : Bool) (i j : ℕ) → rank_of v (x i) ≡ rank_of v (x j) → x i ≡ x j
  unranked v i j = rank_same v (x i) (x j) (small i) (small j)

  module _ (short : l + r < m) where
    b : Below (ranked turned x) m (l + r) l
    b = top (l + r) short (omega arith)

    c : Below (ranked (not turned) x) m (t + r) t
    c = other (t + r) (omega arith) (omega arith)

    -- a letter of the second comparison, seen from l
    c-tie : (e : ℕ) → l - t + e < c.far → x (l + r + e) ≡ x (l + e)
    c-tie e h =
        ap x (omega arith)
        ∙ unranked (not turned) (t + r + (l - t + e)) (t + (l - t + e)) (c.tie (l - t + e) h)
        ∙ ap x (omega arith)

    -- the second comparison comes as far as l: before it is the repetition
    past : t + r + c.far < m → rank_of (not turned) (x (t + r + c.far)) < rank_of (not turned) (x (t + c.far)) → l - t ≤ c.far
    past h w = under c.far (l - t)
        (λ k.
        let e : x (t + c.far) ≡ x (t + r + c.far) = rep (t + c.far) (omega arith) (omega arith) (omega arith) ∙ ap x (omega arith) in
        absurd (omega (arith, ap (rank_of (not turned)) e)))
        (λ k. k)

    clash : rank_of turned (x (l + r + b.far)) < rank_of turned (x (l + b.far)) → t + r + c.far < m
        → rank_of (not turned) (x (t + r + c.far)) < rank_of (not turned) (x (t + c.far)) → ⊥
    clash u h w = under b.far far less (λ i. under far b.far more (λ j. same (omega arith)))
      where
        far : ℕ
        far = c.far - (l - t)

        p : l - t ≤ c.far
        p = past h w

        less : b.far < far → ⊥
        less k = omega (arith, ap (rank_of turned) (c-tie b.far (omega arith)))

        at-far : rank_of (not turned) (x (l + r + far)) < rank_of (not turned) (x (l + far))
        at-far =
            omega (
              arith,
              ap (λ (i : ℕ). rank_of (not turned) (x i)) (behind c.far p),
              ap (λ (i : ℕ). rank_of (not turned) (x i)) (from-l c.far p),
            )
          where
            behind : (d : ℕ) → l - t ≤ d → t + r + d ≡ l + r + (d - (l - t))
            behind d k = omega arith

            from-l : (d : ℕ) → l - t ≤ d → t + d ≡ l + (d - (l - t))
            from-l d k = omega arith

        more : far < b.far → ⊥
        more k = omega (arith, at-far, ap (rank_of (not turned)) (unranked turned (l + r + far) (l + far) (b.tie far k)))

        same : b.far ≡ far → ⊥
        same k =
            rank_turned turned (x (l + r + b.far)) (x (l + b.far)) u
            (subst (λ (d : ℕ). rank_of (not turned) (x (l + r + d)) < rank_of (not turned) (x (l + d))) (sym k) at-far)

    right : (e : ℕ) → l + r + e < m → x (l + e) ≡ x (l + r + e)
    right e h =
        ⊎_elim
        (λ u. sym (unranked turned (l + r + e) (l + e) (b.tie e (omega arith))))
        (λ u. ⊎_elim
        (λ v. sym (c-tie e (omega arith)))
        (λ v. absurd (clash u.2 v.0 v.2))
        c.over)
        b.over

  rep-period : Period x m l r
  rep-period i h k = ap x (omega arith) ∙ right (omega arith) (i - l) (omega arith) ∙ ap x (omega arith)

-- ---- so the later start is a critical cut, with the least period of the part from it on

pub record Critical (x : ℕ → ℕ) (m l p : ℕ) : Type 0 where
  pub some : 0 < p
  pub inside : l + p ≤ m
  pub long : (r : ℕ) → 0 < r → Rep x m l r → l < r
  pub right : (r : ℕ) → 0 < r → Rep x m l r → Period x m l r
  pub period : Period x m l p
  pub least : (g : ℕ) → 0 < g → g < p → Period x m l g → ⊥

pub critical : (x : ℕ → ℕ) (m : ℕ) → ((i : ℕ) → x i < 256) → (turned : Bool) (l p t o : ℕ) → Greatest (ranked turned x) m l p
    → Greatest (ranked (not turned) x) m t o → t ≤ l → Critical x m l p
critical x m small turned l p t o f g before =
    record {
      some = f.some;
      inside = f.inside;
      long = long;
      right = λ r a b. rep-period x m small turned l t before f.greatest g.greatest r a (long r a b) b;
      period = λ i a b. rank_same turned (x i) (x (i + p)) (small i) (small (i + p)) (f.period i a b);
      least = λ q a b c. f.least q a b (λ i u v. ap (rank_of turned) (c i u v));
    }
  where
    long : (r : ℕ) → 0 < r → Rep x m l r → l < r
    long r a b =
        rep-long (ranked turned x) m l r f.greatest (omega (arith, f.some, f.inside)) a (λ j u v w. ap (rank_of turned) (b j u v w))

module _ (x : ℕ → ℕ) (m l p : ℕ) (c : Critical x m l p) where
  -- the left part ends the right part's period: the whole repeats
  pub cut-period : l ≤ p → ((i : ℕ) → i < l → x (p + i) ≡ x i) → Cut x m l p (m - p)
  cut-period h e =
      record {
        inside = omega (arith, c.inside);
        some = c.some;
        short = omega (arith, c.inside);
        far = λ r a b. under r p (λ u. absurd (c.least r a u (c.right r a b))) (λ u. u);
        right = c.right;
        low = omega arith;
        kept = λ j a. (
          omega arith,
          omega arith,
          under j l (λ u. sym (e j u) ∙ ap x (omega arith)) (λ u. c.period j u (omega arith)),
        );
      }

  -- a repetition no longer than the right part makes the period one
  descend : (n r : ℕ) → r < n → 0 < r → l + r ≤ m → Rep x m l r → Rep x m l p
  descend zero r a b h e = absurd (omega arith)
  descend (suc n) r a b h e = under r p
      (λ u. absurd (c.least r b u (c.right r b e)))
      (λ u. under p r
      (λ v.
      descend n (r - p) (omega (arith, c.some)) (omega arith) (omega arith)
      (λ j w z t. e j w (omega arith) (omega arith) ∙ ap x (omega arith) ∙ sym (c.period (j + (r - p)) z (omega arith))))
      (λ v. subst (λ (q : ℕ). Rep x m l q) (omega arith) e))

  -- it does not: no repetition is shorter than either part
  pub cut-wide : (Rep x m l p → ⊥) → (q : ℕ) → 0 < q → (q ≤ l + 1) ⊎ (q ≤ m - l + 1) → Cut x m l q 0
  cut-wide none q a h =
      record {
        inside = omega (arith, c.inside);
        some = a;
        short = ⊎_elim (λ u. omega (arith, c.inside, c.some)) (λ u. omega (arith, not_first)) h;
        far = λ r b e.
            ⊎_elim (λ u. omega (arith, c.long r b e))
            (λ u. under r q (λ v. absurd (none (descend (suc r) r (omega arith) b (omega (arith, c.inside)) e))) (λ v. v))
            h;
        right = c.right;
        low = omega arith;
        kept = λ j b. absurd (omega arith);
      }
    where
      not_first : 0 < l
      not_first = under l 1 (λ u. absurd (none (λ j v w z. absurd (omega arith)))) (λ u. u)
