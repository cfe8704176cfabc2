-- The laws of the indexed lookup: the choice by halving, lookup resumed at a place, and that a true index answers as the plain one.
use mathlib.Core.Path.{◌≡◌, refl, sym, ap, ◌∙◌}
use mathlib.Core.Logic.{◌⊎◌, inl, inr}
use Prim.Native.Nat.{ℕ, zero, suc, ◌+◌, ◌-◌, ◌*◌, ◌/◌, ◌≤◌, ◌<◌}
use native.Mathlib.Nat.{mul-zero, mul-suc, le_of_lt, le_trans, mul-div-le}
use mathlib.Core.Bool.{Bool, true, false, cond}
use mathlib.Core.List.{List, foldl}
use lib.ListN.{length}
use lib.Dec.{ltb, leb}
use borrow.Author.Tests.{lt-ltb, le-ltb, ltb-true, ltb-false, leb-true, leb-false, le-leb}
use native.Mathlib.Omega.{arith}
use Rattle.theory.specs.Reader.{Reader, cut}
use Rattle.theory.specs.Place.{Ruler, at, lookup, plain, mark}
use Rattle.theory.specs.Index.{marks, halve, resumed, from, by_bytes, by_halving}
use Rattle.theory.proofs.Cases.{split, under}
use Rattle.theory.proofs.Divisions.{Division, cut-size}
use Rattle.theory.proofs.Rows.{div_in, div-out}
use Rattle.theory.proofs.PlacesFound.{NeverFalls, Rises, Before, before-mono, before-rise, lookup-from, lookup-past, found-count, found_first}
use Rattle.theory.proofs.PlacesFound.{Measured, bytes_rise, bytes-mono, bytes-foldl, PlaceOf, plain-place, place_in, place-behind}
use Rattle.theory.proofs.PlacesFound.{mark-place, mark-le, mark-zero, mark-near}

-- A TRUE INDEX of a text: checkpoint k is the last place at or before spacing × k
abbrev pub True : {K P : Type 0} → Reader K → Ruler K P → ℕ → (ℕ → P) → List ℕ → Type 0
True look R spacing ix xs = (k : ℕ) → spacing * k ≤ length xs → ix k ≡ mark look R (spacing * k) xs

-- ---- the choice by halving

-- all that lookup needs of it: the number chosen is one of the index, and is 0 or passes the test
pub record Chosen (t : ℕ → Bool) (high j : ℕ) : Type 0 where
  pub below : j < high
  pub passes : (j ≡ zero) ⊎ (t j ≡ true)

module _ (t : ℕ → Bool) where
  pub halve-chosen : (f low high : ℕ) → Chosen t high low → Chosen t high (halve f t low high)
  halve-chosen zero low high c = c
  halve-chosen (suc f) low high c = split (ltb 1 (high - low))
      (λ e. rw e (split (t ((low + high) / 2))
      (λ d. rw d (halve-chosen f ((low + high) / 2) high (record { below = omega (arith, ltb-true); passes = inr d })))
      (λ d.
      let c' : Chosen t ((low + high) / 2) (halve f t low ((low + high) / 2))
      = halve-chosen f low ((low + high) / 2) (record { below = omega (arith, ltb-true); passes = c.passes }) in
      rw d (record { below = omega arith; passes = c'.passes }))))
      (λ e. rw e c)

  -- the number behind it is the end, or fails the test
  pub halve-next : (f low high : ℕ) → low < high → high - low ≤ suc f
      → (suc (halve f t low high) ≡ high) ⊎ (t (suc (halve f t low high)) ≡ false)
  halve-next zero low high l h = inl (omega arith)
  halve-next (suc f) low high l h = split (ltb 1 (high - low))
      (λ e. rw e (split (t ((low + high) / 2))
      (λ d. rw d (halve-next f ((low + high) / 2) high (omega (arith, ltb-true)) (omega (arith, ltb-true))))
      (λ d. rw d (met ((low + high) / 2) d (halve-next f low ((low + high) / 2) (omega (arith, ltb-true)) (omega (arith, ltb-true)))))))
      (λ e. rw e (inl (omega (arith, ltb-false))))
    where
      met : {k high : ℕ} (mid : ℕ) → t mid ≡ false → (k ≡ mid) ⊎ (t k ≡ false) → (k ≡ high) ⊎ (t k ≡ false)
      met mid d (inl e) = inr (rw e d)
      met mid d (inr e) = inr e

  -- it stops where the two are next to each other, and else takes a turn
  pub halve-stop : (f low high : ℕ) → high - low ≤ 1 → halve f t low high ≡ low
  halve-stop zero low high h = refl
  halve-stop (suc f) low high h = rw (le-ltb 1 (high - low) h)

  pub halve-turn : (f low high : ℕ) → 1 < high - low
      → let mid : ℕ = (low + high) / 2 in
      halve (suc f) t low high ≡ halve f t (cond (t mid) mid low) (cond (t mid) high mid)
  halve-turn f low high h = rw (lt-ltb 1 (high - low) h)

  -- a number of turns that is large enough gives the same as any larger one
  pub halve-enough : (f low high : ℕ) → high - low ≤ suc f → halve (suc f) t low high ≡ halve f t low high
  halve-enough zero low high h = halve-stop 1 low high h
  halve-enough (suc f) low high h = split (ltb 1 (high - low))
      (λ e.
      let g : 1 < high - low = ltb-true 1 (high - low) e in
      let mid : ℕ = (low + high) / 2 in
      let fewer : cond (t mid) high mid - cond (t mid) mid low ≤ suc f = split (t mid) (λ d. rw d (omega arith)) (λ d. rw d (omega arith)) in
      halve-turn (suc f) low high g
      ∙ halve-enough f (cond (t mid) mid low) (cond (t mid) high mid) fewer
      ∙ sym (halve-turn f low high g))
      (λ e.
      let g : high - low ≤ 1 = ltb-false 1 (high - low) e in
      halve-stop (suc (suc f)) low high g ∙ sym (halve-stop (suc f) low high g))

  -- for a loop, which counts no turns: as many as lie between the two are enough, and so after each turn
  halve-exact : (f low high : ℕ) → high - low ≤ f → halve f t low high ≡ halve (high - low) t low high
  halve-exact zero low high h = let e : high - low ≡ zero = omega arith in rw e
  halve-exact (suc f) low high h = split (leb (high - low) f)
      (λ e. halve-enough f low high h ∙ halve-exact f low high (leb-true (high - low) f e))
      (λ e. let g : suc f ≡ high - low = omega (arith, leb-false) in ap (λ (n : ℕ). halve n t low high) g)

  module _ (low high : ℕ) (wide : 1 < high - low) where
    pub halve-low : t ((low + high) / 2) ≡ true → halve (high - low) t low high ≡ halve (high - (low + high) / 2) t ((low + high) / 2) high
    halve-low d =
        let f : ℕ = high - suc low in
        let e : high - low ≡ suc f = omega arith in
        rw e (halve-turn f low high wide ∙ rw d (halve-exact f ((low + high) / 2) high (omega arith)))

    pub halve-high : t ((low + high) / 2) ≡ false → halve (high - low) t low high ≡ halve ((low + high) / 2 - low) t low ((low + high) / 2)
    halve-high d =
        let f : ℕ = high - suc low in
        let e : high - low ≡ suc f = omega arith in
        rw e (halve-turn f low high wide ∙ rw d (halve-exact f low ((low + high) / 2) (omega arith)))

module _ {K P : Type 0} {look : Reader K} (D : Division look) {R : Ruler K P} (M : Measured R) (top spacing : ℕ) (fair : P → Bool) where
  -- ---- A LOOKUP RESUMED AT A PLACE OF THE TEXT ANSWERS AS THE PLAIN ONE

  module _ (m : P → ℕ) (o : ℕ) (xs : List ℕ) where
    resumed-place : {q : P} (b : PlaceOf look R xs q) → Before R.step m o R.zeroth b.front
        → resumed look R top spacing fair m o q xs ≡ plain look R m o xs
    resumed-place {q} b h = sym (
        ap (lookup R.step m o R.zeroth) b.joined
        ∙ lookup-from R.step m o R.zeroth b.front b.behind h
        ∙ rw (← b.place, place-behind D M xs b))

    -- where the measure rises and is not past the offset there
    pub resumed-rise : Rises R.step m → {q : P} → PlaceOf look R xs q → m q ≤ o
        → resumed look R top spacing fair m o q xs ≡ plain look R m o xs
    resumed-rise rise b h = resumed-place b (before-rise R.step m rise o R.zeroth b.front (rw b.place at h))

    -- where it never falls and is below the offset there
    pub resumed-mono : NeverFalls R.step m → {q : P} → PlaceOf look R xs q → m q < o
        → resumed look R top spacing fair m o q xs ≡ plain look R m o xs
    resumed-mono mono b h = resumed-place b (before-mono R.step m mono o R.zeroth b.front (rw b.place at h))

    -- and at the text's start
    pub resumed-zero : resumed look R top spacing fair m o R.zeroth xs ≡ plain look R m o xs
    resumed-zero = rw M.none

  -- ---- A LOOKUP IN A TRUE INDEX ANSWERS AS THE PLAIN ONE

  -- where no segment has more than `top` elements and the checkpoints' counts are fair
  module _ (tops : (x : ℕ) (xs : List ℕ) → (look x xs).more < top) (xs : List ℕ) (fine : (most : ℕ) → fair (mark look R most xs) ≡ true)
      (ix : ℕ → P) (good : True look R spacing ix xs) where
    from-true : (m : P → ℕ) (o j : ℕ) → spacing * j ≤ length xs → m (mark look R (spacing * j) xs) ≤ o
        → resumed look R top spacing fair m o (mark look R (spacing * j) xs) xs ≡ plain look R m o xs
        → from look R top spacing fair m o j (ix j) xs ≡ plain look R m o xs
    from-true m o j h k e =
        let q : P = mark look R (spacing * j) xs in
        let n : spacing * j < R.bytes q + top = mark-near D M xs top tops (spacing * j) h in
        rw (
          good j h,
          le-leb (spacing * j) (R.bytes q + (top - 1)) (omega arith),
          le-leb (R.bytes q) (spacing * j) (mark-le look M xs (spacing * j)),
          fine (spacing * j),
          le-leb (m q) o k,
        ) e

    -- by bytes
    pub bytes-true : (o : ℕ) → by_bytes look R top spacing fair o ix xs ≡ plain look R R.bytes o xs
    bytes-true o = split (ltb (length xs) o)
        (λ e.
        let h : R.bytes (foldl R.step R.zeroth (cut look xs)) < o
        = omega (arith, ltb-true, bytes-foldl M R.zeroth (cut look xs), M.none, cut-size look xs) in
        rw e (sym (lookup-past R.step R.bytes (bytes-mono M) o R.zeroth (cut look xs) h)))
        (λ e.
        let j : ℕ = o / spacing in
        let h : spacing * j ≤ o = mul-div-le o spacing in
        let k : R.bytes (mark look R (spacing * j) xs) ≤ o = le_trans (mark-le look M xs (spacing * j)) h in
        let r = resumed-rise R.bytes o xs (bytes_rise M) (mark-place look R xs (spacing * j)) k in
        rw e (from-true R.bytes o j (omega (arith, ltb-false)) k r))

    -- by another measure: enough that a checkpoint which passes the test is one at which lookup may be resumed
    halving-true : (m : P → ℕ) (less : ℕ → ℕ → Bool) (o : ℕ) → m R.zeroth ≡ zero
        → ((q : P) → PlaceOf look R xs q → less (m q) o ≡ true → (m q ≤ o) × (resumed look R top spacing fair m o q xs ≡ plain look R m o xs))
        → by_halving look R top spacing fair m less o ix xs ≡ plain look R m o xs
    halving-true m less o mz ok = go (halve n t zero n) (halve-chosen t n zero n (record { below = omega arith; passes = inl refl }))
      where
        n : ℕ
        n = marks spacing (length xs)

        t : ℕ → Bool
        t k = less (m (ix k)) o

        starts : (j : ℕ) → spacing * j ≤ length xs → (j ≡ zero) ⊎ (t j ≡ true)
            → (m (mark look R (spacing * j) xs) ≤ o) × (resumed look R top spacing fair m o (mark look R (spacing * j) xs) xs ≡ plain look R m o xs)
        starts j h (inl z) = rw (z, mul-zero spacing, mark-zero look M xs) (rw mz (omega arith), resumed-zero m o xs)
        starts j h (inr e) = ok (mark look R (spacing * j) xs) (mark-place look R xs (spacing * j)) (rw (good j h) at e)

        go : (j : ℕ) → Chosen t n j → from look R top spacing fair m o j (ix j) xs ≡ plain look R m o xs
        go j c =
            let w : spacing * j ≤ length xs = div_in spacing (length xs) j c.below in
            let r = starts j w c.passes in
            from-true m o j w r.0 r.1

    -- by one that rises, as units and code points
    pub rising-true : (m : P → ℕ) → Rises R.step m → m R.zeroth ≡ zero → (o : ℕ)
        → by_halving look R top spacing fair m leb o ix xs ≡ plain look R m o xs
    rising-true m rise mz o = halving-true m leb o mz (λ q b e. (leb-true (m q) o e, resumed-rise m o xs rise b (leb-true (m q) o e)))

    -- and by one that never falls, as lines
    pub lines-true : (m : P → ℕ) → NeverFalls R.step m → m R.zeroth ≡ zero → (o : ℕ)
        → by_halving look R top spacing fair m ltb o ix xs ≡ plain look R m o xs
    lines-true m mono mz o = halving-true m ltb o mz (λ q b e. (le_of_lt (ltb-true (m q) o e), resumed-mono m o xs mono b (ltb-true (m q) o e)))

-- ---- A LOOKUP IN A TRUE INDEX WALKS LESS THAN THE SPACING AND ONE SEGMENT, from the checkpoint chosen to the place found

module _ {K P : Type 0} {look : Reader K} (D : Division look) {R : Ruler K P} (M : Measured R) (top spacing : ℕ) (wide : zero < spacing)
    (tops : (x : ℕ) (xs : List ℕ) → (look x xs).more < top) (xs : List ℕ) (ix : ℕ → P) (good : True look R spacing ix xs) where
  -- the place is at or before the next checkpoint's number
  near : (j : ℕ) (p : P) → spacing * j ≤ length xs → R.bytes p ≤ spacing * suc j → R.bytes p < R.bytes (ix j) + (spacing + top)
  near j p h k = rw (good j h) (omega (arith, mark-near D M xs top tops (spacing * j) h, mul-suc spacing j))

  -- by bytes
  pub bytes-near : (o : ℕ) (p : P) → plain look R R.bytes o xs ≡ at p → R.bytes p < R.bytes (ix (o / spacing)) + (spacing + top)
  bytes-near o p e =
      let c : R.bytes p ≡ o = found-count R.step R.bytes o R.zeroth (cut look xs) p e in
      let i : R.bytes p ≤ length xs = place_in look M xs (plain-place look R xs R.bytes o p e) in
      let l : o < spacing * suc (o / spacing) = div-out spacing wide o (suc (o / spacing)) (omega arith) in
      near (o / spacing) p (omega (arith, mul-div-le o spacing)) (omega arith)

  -- by any measure, where a count that fails the test is the offset or more
  pub halving-near : (m : P → ℕ) (less : ℕ → ℕ → Bool) (o : ℕ) → ((c : ℕ) → less c o ≡ false → o ≤ c) → (p : P) → plain look R m o xs ≡ at p
      → let n : ℕ = marks spacing (length xs) in
      R.bytes p < R.bytes (ix (halve n (λ k. less (m (ix k)) o) zero n)) + (spacing + top)
  halving-near m less o fails p e =
      let c : Chosen t n (halve n t zero n) = halve-chosen t n zero n (record { below = omega arith; passes = inl refl }) in
      go (halve n t zero n) c (halve-next t n zero n (omega arith) (omega arith))
    where
      n : ℕ
      n = marks spacing (length xs)

      t : ℕ → Bool
      t k = less (m (ix k)) o

      -- no checkpoint is behind the last
      ends : (j : ℕ) → suc j ≡ n → R.bytes p ≤ spacing * suc j
      ends j z =
          let i : R.bytes p ≤ length xs = place_in look M xs (plain-place look R xs m o p e) in
          let l : length xs < spacing * n = div-out spacing wide (length xs) n (omega arith) in
          rw z (omega arith)

      -- the next one counts the offset or more
      stops : (j : ℕ) → suc j < n → t (suc j) ≡ false → R.bytes p ≤ spacing * suc j
      stops j b f =
          let q : P = mark look R (spacing * suc j) xs in
          let k : o ≤ m q = fails (m q) (rw (good (suc j) (div_in spacing (length xs) (suc j) b)) at f) in
          le_trans
          (found_first R.step m R.bytes (bytes-mono M) o p e (mark-place look R xs (spacing * suc j)) k)
          (mark-le look M xs (spacing * suc j))

      go : (j : ℕ) → Chosen t n j → (suc j ≡ n) ⊎ (t (suc j) ≡ false) → R.bytes p < R.bytes (ix j) + (spacing + top)
      go j c (inl z) = near j p (div_in spacing (length xs) j c.below) (ends j z)
      go j c (inr f) = near j p (div_in spacing (length xs) j c.below) (under (suc j) n
          (λ b. stops j b f)
          (λ b. ends j (omega (arith, c.below))))
