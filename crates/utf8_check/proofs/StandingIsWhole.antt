-- Where each byte stands well behind the three before it, a text is whole segments as far as the last boundary, and damage
-- stands behind them.
use mathlib.Core.Path.{◌≡◌, refl, sym, ◌∙◌, subst}
use Prim.Native.Nat.{ℕ, zero, suc, pred, ◌+◌, ◌-◌, ◌≤◌, ◌<◌}
use mathlib.Core.Bool.{true, false, cond, ◌&&◌}
use mathlib.Core.List.{List, [], ◌∷◌, ◌++◌}
use mathlib.Core.Option.{some, none}
use lib.ListN.{length, drop, get_or}
use lib.Seq.{drop-append-add}
use lib.Dec.{leb, ltb, eqb}
use native.Mathlib.Omega.{arith}
use borrow.Author.Tests.{lt-ltb, le-ltb, le-leb, lt-leb, ltb-true, leb-true, eq-eqb, ne_eqb}
use Rattle.theory.specs.Table.{Range, ◌to◌, within, is_damage, longer, want, wanted_behind, lone}
use Rattle.theory.proofs.Cases.{split, under, both, by-ends}
use Rattle.utf8_scan.specs.Stands.{is_later, low_of, high_of, second, stands, standing_from, standing, waiting, waiting_at}
use Rattle.utf8_scan.proofs.OnwardByBytes.{before_is}
use Rattle.utf8_scan.proofs.AskedByThree.{waits_one, waits-two, waits-three, waits-none, stands-first, stands-second, stands-third, stands-fourth}
use Rattle.utf8.specs.Bytes.{row, next, rows, lone_byte, bytes}
use Rattle.utf8_check.specs.Run.{whole_run}
use Rattle.utf8.proofs.RowsOfBytes.{at_row, at_none}
use Rattle.utf8_check.proofs.RunDivides.{Run, Stops, whole_look, run_none, run_more, run_is}

-- ---- a last number and a bound

below_is : (y high : ℕ) → 0 < high → leb y (pred high) ≡ ltb y high
below_is y zero h = absurd (omega arith)
below_is y (suc high) h = under y (suc high)
    (λ a. le-leb y high (omega arith) ∙ sym (lt-ltb y (suc high) a))
    (λ a. lt-leb y high (omega arith) ∙ sym (le-ltb y (suc high) a))

next_is : (y : ℕ) → within next y ≡ is_later y
next_is y = rw (below_is y 0xC0 (omega arith))

-- ---- what a first byte begins, told by the tests of the second byte

-- the ranges behind the second byte
abbrev others : ℕ → List Range
others x = cond (ltb x 0xE0) [] (next ∷ cond (ltb x 0xF0) [] (next ∷ []))

-- and with it
abbrev wanted : ℕ → List Range
wanted x = low_of x to pred (high_of x) ∷ others x

module _ (x : ℕ) where
  low_any : (x ≡ 0xE0 → ⊥) → (x ≡ 0xF0 → ⊥) → low_of x ≡ 0x80
  low_any e f = rw (ne_eqb x 0xE0 e, ne_eqb x 0xF0 f)

  high-any : (x ≡ 0xED → ⊥) → (x ≡ 0xF4 → ⊥) → high_of x ≡ 0xC0
  high-any e f = rw (ne_eqb x 0xED e, ne_eqb x 0xF4 f)

  others-two : x < 0xE0 → others x ≡ []
  others-two h = rw (lt-ltb x 0xE0 h)

  others-three : 0xE0 ≤ x → x < 0xF0 → others x ≡ next ∷ []
  others-three l h = rw (le-ltb x 0xE0 l, lt-ltb x 0xF0 h)

  others-four : 0xF0 ≤ x → others x ≡ next ∷ next ∷ []
  others-four l = rw (le-ltb x 0xE0 (omega arith), le-ltb x 0xF0 l)

  as_wanted : (low high : ℕ) (rs : List Range) → wanted_behind rows x ≡ some (low to high ∷ rs) → low_of x ≡ low → high_of x ≡ suc high → others x ≡ rs
      → wanted_behind rows x ≡ some (wanted x)
  as_wanted low high rs b p q r = rw (b, p, q, r)

  begun-two : 0xC2 ≤ x → x < 0xE0 → wanted_behind rows x ≡ some (wanted x)
  unfolding rows
  begun-two l h = as_wanted 0x80 0xBF []
      (at_row 1 (row (0xC2 to 0xDF) (next ∷ [])) refl x (omega arith))
      (low_any (λ e. omega arith) (λ e. omega arith)) (high-any (λ e. omega arith) (λ e. omega arith)) (others-two h)

  begun-three : 0xE0 ≤ x → x < 0xF0 → wanted_behind rows x ≡ some (wanted x)
  unfolding rows
  begun-three l h =
      let o : others x ≡ next ∷ [] = others-three l h in
      under x 0xE1
      (λ a.
      let e : x ≡ 0xE0 = omega arith in
      as_wanted 0xA0 0xBF (next ∷ []) (at_row 2 (row (0xE0 to 0xE0) (0xA0 to 0xBF ∷ next ∷ [])) refl x (omega arith))
      (rw (eq-eqb x 0xE0 e)) (high-any (λ d. omega arith) (λ d. omega arith)) o)
      (λ a. under x 0xED
      (λ b.
      as_wanted 0x80 0xBF (next ∷ []) (at_row 3 (row (0xE1 to 0xEC) (next ∷ next ∷ [])) refl x (omega arith))
      (low_any (λ d. omega arith) (λ d. omega arith)) (high-any (λ d. omega arith) (λ d. omega arith)) o)
      (λ b. under x 0xEE
      (λ c.
      let e : x ≡ 0xED = omega arith in
      as_wanted 0x80 0x9F (next ∷ []) (at_row 4 (row (0xED to 0xED) (0x80 to 0x9F ∷ next ∷ [])) refl x (omega arith))
      (low_any (λ d. omega arith) (λ d. omega arith)) (rw (eq-eqb x 0xED e)) o)
      (λ c.
      as_wanted 0x80 0xBF (next ∷ []) (at_row 5 (row (0xEE to 0xEF) (next ∷ next ∷ [])) refl x (omega arith))
      (low_any (λ d. omega arith) (λ d. omega arith)) (high-any (λ d. omega arith) (λ d. omega arith)) o)))

  begun-four : 0xF0 ≤ x → x < 0xF5 → wanted_behind rows x ≡ some (wanted x)
  unfolding rows
  begun-four l h =
      let o : others x ≡ next ∷ next ∷ [] = others-four l in
      under x 0xF1
      (λ a.
      let e : x ≡ 0xF0 = omega arith in
      as_wanted 0x90 0xBF (next ∷ next ∷ []) (at_row 6 (row (0xF0 to 0xF0) (0x90 to 0xBF ∷ next ∷ next ∷ [])) refl x (omega arith))
      (rw (ne_eqb x 0xE0 (λ d. omega arith), eq-eqb x 0xF0 e)) (high-any (λ d. omega arith) (λ d. omega arith)) o)
      (λ a. under x 0xF4
      (λ b.
      as_wanted 0x80 0xBF (next ∷ next ∷ []) (at_row 7 (row (0xF1 to 0xF3) (next ∷ next ∷ next ∷ [])) refl x (omega arith))
      (low_any (λ d. omega arith) (λ d. omega arith)) (high-any (λ d. omega arith) (λ d. omega arith)) o)
      (λ b.
      let e : x ≡ 0xF4 = omega arith in
      as_wanted 0x80 0x8F (next ∷ next ∷ []) (at_row 8 (row (0xF4 to 0xF4) (0x80 to 0x8F ∷ next ∷ next ∷ [])) refl x (omega arith))
      (low_any (λ d. omega arith) (λ d. omega arith)) (rw (ne_eqb x 0xED (λ d. omega arith), eq-eqb x 0xF4 e)) o))

  begun-wanted : 0xC2 ≤ x → x < 0xF5 → wanted_behind rows x ≡ some (wanted x)
  begun-wanted l h = under x 0xE0 (begun-two l) (λ a. under x 0xF0 (begun-three a) (λ b. begun-four b h))

  -- ---- the look at a first byte

  look-plain : x < 0x80 → (xs : List ℕ) → bytes x xs ≡ whole_look 0
  unfolding bytes rows
  look-plain h xs = let b : wanted_behind rows x ≡ some [] = at_row 0 (row (0x00 to 0x7F) []) refl x (omega arith) in rw b

  look-later : 0x80 ≤ x → x < 0xC2 → (xs : List ℕ) → bytes x xs ≡ lone (lone_byte x)
  unfolding bytes rows
  look-later l h xs = let b : wanted_behind rows x ≡ none = at_none 1 refl x (omega arith) in rw b

  look-past : 0xF5 ≤ x → (xs : List ℕ) → bytes x xs ≡ lone (lone_byte x)
  unfolding bytes rows
  look-past l xs = let b : wanted_behind rows x ≡ none = at_none 9 refl x (omega arith) in rw b

  look-wanted : 0xC2 ≤ x → x < 0xF5 → (xs : List ℕ) → bytes x xs ≡ want (wanted x) xs
  unfolding bytes
  look-wanted l h xs = rw (begun-wanted l h)

  -- the text ends behind it
  look-ended : 0xC0 ≤ x → is_damage (bytes x []).tag ≡ true
  look-ended g = under x 0xC2
      (λ h. rw (look-later (omega arith) h []))
      (λ l. under x 0xF5 (λ h. rw (look-wanted l h [])) (λ h. rw (look-past h [])))

  -- ---- and at a second one

  module _ (y : ℕ) where
    high-some : (0 < high_of x) × (high_of x ≤ 0xC0)
    high-some = split (eqb x 0xED)
        (λ p. rw p (omega arith, omega arith))
        (λ p. rw p (split (eqb x 0xF4) (λ q. rw q (omega arith, omega arith)) (λ q. rw q (omega arith, omega arith))))

    within-is : 0xC2 ≤ x → x < 0xF5 → within (low_of x to pred (high_of x)) y ≡ second x y
    within-is l h = rw (le-leb 0xC2 x l, lt-ltb x 0xF5 h, below_is y (high_of x) high-some.0)

    -- it does not fit
    look-stopped : 0xC0 ≤ x → second x y ≡ false → (ys : List ℕ) → is_damage (bytes x (y ∷ ys)).tag ≡ true
    look-stopped g s ys = under x 0xC2
        (λ h. rw (look-later (omega arith) h (y ∷ ys)))
        (λ l. under x 0xF5
        (λ h. rw (look-wanted l h (y ∷ ys), within-is l h, s))
        (λ h. rw (look-past h (y ∷ ys))))

    -- it does
    module _ (s : second x y ≡ true) where
      halves : (leb 0xC2 x && ltb x 0xF5 ≡ true) × (leb (low_of x) y && ltb y (high_of x) ≡ true)
      halves = both (leb 0xC2 x && ltb x 0xF5) (leb (low_of x) y && ltb y (high_of x)) s

      lead : (0xC2 ≤ x) × (x < 0xF5)
      lead = let p = both (leb 0xC2 x) (ltb x 0xF5) halves.0 in (leb-true 0xC2 x p.0, ltb-true x 0xF5 p.1)

      pub second-low : y < 0xC0
      second-low = let h : y < high_of x = ltb-true y (high_of x) (both (leb (low_of x) y) (ltb y (high_of x)) halves.1).1 in omega (arith, high-some.1)

      look-second : (ys : List ℕ) → bytes x (y ∷ ys) ≡ longer (want (others x) ys)
      look-second ys = rw (look-wanted lead.0 lead.1 (y ∷ ys), within-is lead.0 lead.1, s)

      look-two : x < 0xE0 → (ys : List ℕ) → bytes x (y ∷ ys) ≡ whole_look 1
      look-two h ys = rw (look-second ys, others-two h)

      module _ (g : 0xE0 ≤ x) where
        look-two-ended : is_damage (bytes x (y ∷ [])).tag ≡ true
        look-two-ended = under x 0xF0 (λ h. rw (look-second [], others-three g h)) (λ h. rw (look-second [], others-four h))

        look-two-stopped : (z : ℕ) → is_later z ≡ false → (zs : List ℕ) → is_damage (bytes x (y ∷ z ∷ zs)).tag ≡ true
        look-two-stopped z t zs = under x 0xF0
            (λ h. rw (look-second (z ∷ zs), others-three g h, next_is z, t))
            (λ h. rw (look-second (z ∷ zs), others-four h, next_is z, t))

        module _ (z : ℕ) (t : is_later z ≡ true) where
          look-three : x < 0xF0 → (zs : List ℕ) → bytes x (y ∷ z ∷ zs) ≡ whole_look 2
          look-three h zs = rw (look-second (z ∷ zs), others-three g h, next_is z, t)

          module _ (f : 0xF0 ≤ x) where
            look-three-ended : is_damage (bytes x (y ∷ z ∷ [])).tag ≡ true
            look-three-ended = rw (look-second (z ∷ []), others-four f, next_is z, t)

            look-three-stopped : (u : ℕ) → is_later u ≡ false → (us : List ℕ) → is_damage (bytes x (y ∷ z ∷ u ∷ us)).tag ≡ true
            look-three-stopped u v us = rw (look-second (z ∷ u ∷ us), others-four f, next_is z, t, next_is u, v)

            look-four : (u : ℕ) → is_later u ≡ true → (us : List ℕ) → bytes x (y ∷ z ∷ u ∷ us) ≡ whole_look 3
            look-four u v us = rw (look-second (z ∷ u ∷ us), others-four f, next_is z, t, next_is u, v)

-- ---- a text n of whose bytes stand well, w of them behind the last boundary

record Fits (text : List ℕ) (n w : ℕ) : Type 0 where
  within-n : w ≤ n
  run : Run text (n - w)
  stop : Stops (drop (n - w) text)

fits_stay : (text : List ℕ) (n w : ℕ) → w ≡ n → Stops text → Fits text n w
fits_stay text n w e s =
    let z : n - w ≡ 0 = omega arith in
    record { within-n = omega arith; run = rw z (run_none text); stop = rw z s }

fits_more : (x : ℕ) (hs : List ℕ) → ((ys : List ℕ) → bytes x (hs ++ ys) ≡ whole_look (length hs)) → (ys : List ℕ) (n m w : ℕ)
    → m ≡ suc (length hs) + n → Fits ys n w → Fits (x ∷ (hs ++ ys)) m w
fits_more x hs l ys n m w e f =
    let k : m - w ≡ suc (length hs) + (n - w) = omega (arith, f.within-n) in
    record {
      within-n = omega (arith, f.within-n);
      run = run_more x hs l ys (n - w) (m - w) k f.run;
      stop = rw (k, drop-append-add (x ∷ hs) ys (n - w)) f.stop;
    }

-- how many of the bytes before n wait
abbrev waits : ℕ → ℕ → ℕ → List ℕ → ℕ → ℕ
waits b3 b2 b1 text n = waiting (get_or (b3 ∷ b2 ∷ b1 ∷ text) n 0) (get_or (b3 ∷ b2 ∷ b1 ∷ text) (suc n) 0) (get_or (b3 ∷ b2 ∷ b1 ∷ text) (suc (suc n)) 0)

-- as far as a text stands well behind three bytes
abbrev FitsBehind : ℕ → ℕ → ℕ → List ℕ → Type 0
FitsBehind b3 b2 b1 text = Fits text (standing_from b3 b2 b1 text) (waits b3 b2 b1 text (standing_from b3 b2 b1 text))

-- behind any three that ask for nothing
abbrev Fitted : List ℕ → Type 0
Fitted text = (b3 b2 b1 : ℕ) → b1 < 0xC0 → b2 < 0xE0 → b3 < 0xF0 → FitsBehind b3 b2 b1 text

-- ---- case by case, over the bytes of the first segment

module _ (b3 b2 b1 x : ℕ) (h : b1 < 0xC0) (i : b2 < 0xE0) (j : b3 < 0xF0) where
  fits_one : x < 0x80 → (xs : List ℕ) → Fitted xs → FitsBehind b3 b2 b1 (x ∷ xs)
  fits_one l xs f =
      let e : stands b3 b2 b1 x ≡ true = stands-first b3 b2 b1 x h i j ∙ rw (lt-leb 0x80 x l) in
      let n = standing_from b2 b1 x xs in
      rw e (fits_more x [] (look-plain x l) xs n (suc n) (waits b2 b1 x xs n) (omega arith) (f b2 b1 x (omega arith) (omega arith) (omega arith)))

  fits-later : 0x80 ≤ x → x < 0xC0 → (xs : List ℕ) → FitsBehind b3 b2 b1 (x ∷ xs)
  fits-later l k xs =
      let e : stands b3 b2 b1 x ≡ false = stands-first b3 b2 b1 x h i j ∙ rw (le-leb 0x80 x l, lt-ltb x 0xC0 k) in
      rw e (fits_stay (x ∷ xs) 0 (waiting b3 b2 b1) (waits-none b3 b2 b1 h i j) (rw (look-later x l (omega arith) xs)))

  -- a first byte of two or more
  module _ (c : 0xC0 ≤ x) where
    e₁ : stands b3 b2 b1 x ≡ true
    e₁ = stands-first b3 b2 b1 x h i j ∙ rw (le-leb 0x80 x (omega arith), le-ltb x 0xC0 c)

    fits-ended : FitsBehind b3 b2 b1 (x ∷ [])
    fits-ended = rw e₁ (fits_stay (x ∷ []) 1 (waiting b2 b1 x) (waits_one b2 b1 x c) (look-ended x c))

    fits-stopped : (y : ℕ) → second x y ≡ false → (ys : List ℕ) → FitsBehind b3 b2 b1 (x ∷ y ∷ ys)
    fits-stopped y s ys =
        let e : stands b2 b1 x y ≡ false = stands-second b2 b1 x y c ∙ s in
        rw (e₁, e) (fits_stay (x ∷ y ∷ ys) 1 (waiting b2 b1 x) (waits_one b2 b1 x c) (look-stopped x y c s ys))

    -- its second byte
    module _ (y : ℕ) (s : second x y ≡ true) where
      e₂ : stands b2 b1 x y ≡ true
      e₂ = stands-second b2 b1 x y c ∙ s

      y-low : y < 0xC0
      y-low = second-low x y s

      fits-two : x < 0xE0 → (ys : List ℕ) → Fitted ys → FitsBehind b3 b2 b1 (x ∷ y ∷ ys)
      fits-two l ys f =
          let n = standing_from b1 x y ys in
          rw (e₁, e₂)
          (fits_more x (y ∷ []) (look-two x y s l) ys n (suc (suc n)) (waits b1 x y ys n) (omega arith) (f b1 x y y-low l (omega arith)))

      module _ (g : 0xE0 ≤ x) where
        fits-two-ended : FitsBehind b3 b2 b1 (x ∷ y ∷ [])
        fits-two-ended = rw (e₁, e₂) (fits_stay (x ∷ y ∷ []) 2 (waiting b1 x y) (waits-two b1 x y y-low g) (look-two-ended x y s g))

        fits-two-stopped : (z : ℕ) → is_later z ≡ false → (zs : List ℕ) → FitsBehind b3 b2 b1 (x ∷ y ∷ z ∷ zs)
        fits-two-stopped z t zs =
            let e : stands b1 x y z ≡ false = stands-third b1 x y z y-low g ∙ t in
            rw (e₁, e₂, e) (fits_stay (x ∷ y ∷ z ∷ zs) 2 (waiting b1 x y) (waits-two b1 x y y-low g) (look-two-stopped x y s g z t zs))

        -- its third byte
        module _ (z : ℕ) (t : is_later z ≡ true) where
          e₃ : stands b1 x y z ≡ true
          e₃ = stands-third b1 x y z y-low g ∙ t

          z-low : z < 0xC0
          z-low = ltb-true z 0xC0 (both (leb 0x80 z) (ltb z 0xC0) t).1

          fits-three : x < 0xF0 → (zs : List ℕ) → Fitted zs → FitsBehind b3 b2 b1 (x ∷ y ∷ z ∷ zs)
          fits-three l zs f =
              let n = standing_from x y z zs in
              rw (e₁, e₂, e₃)
              (fits_more x (y ∷ z ∷ []) (look-three x y s g z t l) zs n (suc (suc (suc n))) (waits x y z zs n) (omega arith)
              (f x y z z-low (omega (arith, y-low)) l))

          module _ (q : 0xF0 ≤ x) where
            three-wait : waiting x y z ≡ 3
            three-wait = waits-three x y z z-low (omega (arith, y-low)) q

            fits-three-ended : FitsBehind b3 b2 b1 (x ∷ y ∷ z ∷ [])
            fits-three-ended = rw (e₁, e₂, e₃) (fits_stay (x ∷ y ∷ z ∷ []) 3 (waiting x y z) three-wait (look-three-ended x y s g z t q))

            -- its fourth byte
            module _ (u : ℕ) where
              fourth-is : stands x y z u ≡ is_later u
              fourth-is = stands-fourth x y z u z-low (omega (arith, y-low)) q

              fits-three-stopped : is_later u ≡ false → (us : List ℕ) → FitsBehind b3 b2 b1 (x ∷ y ∷ z ∷ u ∷ us)
              fits-three-stopped v us =
                  let e : stands x y z u ≡ false = fourth-is ∙ v in
                  rw (e₁, e₂, e₃, e) (fits_stay (x ∷ y ∷ z ∷ u ∷ us) 3 (waiting x y z) three-wait (look-three-stopped x y s g z t q u v us))

              fits-four : is_later u ≡ true → (us : List ℕ) → Fitted us → FitsBehind b3 b2 b1 (x ∷ y ∷ z ∷ u ∷ us)
              fits-four v us f =
                  let e : stands x y z u ≡ true = fourth-is ∙ v in
                  let n = standing_from y z u us in
                  rw (e₁, e₂, e₃, e)
                  (fits_more x (y ∷ z ∷ u ∷ []) (look-four x y s g z t q u v) us n (suc (suc (suc (suc n)))) (waits y z u us n) (omega arith)
                  (f y z u (ltb-true u 0xC0 (both (leb 0x80 u) (ltb u 0xC0) v).1) (omega (arith, z-low)) (omega (arith, y-low))))

            from-four : (zs : List ℕ) → ((k : ℕ) → Fitted (drop k zs)) → FitsBehind b3 b2 b1 (x ∷ y ∷ z ∷ zs)
            from-four [] f = fits-three-ended
            from-four (u ∷ us) f = split (is_later u) (λ v. fits-four u v us (f 1)) (λ v. fits-three-stopped u v us)

        from-three : (ys : List ℕ) → ((k : ℕ) → Fitted (drop k ys)) → FitsBehind b3 b2 b1 (x ∷ y ∷ ys)
        from-three [] f = fits-two-ended
        from-three (z ∷ zs) f = split (is_later z)
            (λ t. under x 0xF0 (λ l. fits-three z t l zs (f 1)) (λ q. from-four z t q zs (λ k. f (suc k))))
            (λ t. fits-two-stopped z t zs)

    from-two : (xs : List ℕ) → ((k : ℕ) → Fitted (drop k xs)) → FitsBehind b3 b2 b1 (x ∷ xs)
    from-two [] f = fits-ended
    from-two (y ∷ ys) f = split (second x y)
        (λ s. under x 0xE0 (λ l. fits-two y s l ys (f 1)) (λ g. from-three y s g ys (λ k. f (suc k))))
        (λ s. fits-stopped y s ys)

  from-any : (xs : List ℕ) → ((k : ℕ) → Fitted (drop k xs)) → FitsBehind b3 b2 b1 (x ∷ xs)
  from-any xs f = under x 0x80 (λ l. fits_one l xs (f 0)) (λ l. under x 0xC0 (λ k. fits-later l k xs) (λ c. from-two c xs f))

fitted : (text : List ℕ) → Fitted text
fitted = by-ends Fitted
    (λ b3 b2 b1 h i j. fits_stay [] 0 (waiting b3 b2 b1) (waits-none b3 b2 b1 h i j) tt)
    (λ x xs f b3 b2 b1 h i j. from-any b3 b2 b1 x h i j xs f)

-- ---- THE LAW: the whole run ends at the last boundary at or before the end of what stands well

module _ (text : List ℕ) where
  abbrev end : ℕ
  end = standing text - waiting_at text (standing text)

  fits-at : Fits text (standing text) (waiting_at text (standing text))
  fits-at =
      let n = standing text in
      let o : n + 1 ≡ suc n = omega arith in
      let t : n + 2 ≡ suc (suc n) = omega arith in
      let z : n + 0 ≡ n = omega arith in
      rw (before_is text n 0 3 refl, before_is text n 1 2 refl, before_is text n 2 1 refl, z, o, t) (fitted text 0 0 0 (omega arith) (omega arith) (omega arith))

  pub waits-within : waiting_at text (standing text) ≤ standing text
  waits-within = fits-at.within-n

  pub end_is : end ≡ whole_run text
  end_is = run_is text end fits-at.run fits-at.stop

-- the whole run is whole segments, and behind it there is no text, or damage
pub run_at : (text : List ℕ) (n : ℕ) → n ≡ whole_run text → Run text n
run_at text n e = subst (Run text) (end_is text ∙ sym e) (fits-at text).run

pub stops_at : (text : List ℕ) (n : ℕ) → n ≡ whole_run text → Stops (drop n text)
stops_at text n e = subst (λ (k : ℕ). Stops (drop k text)) (end_is text ∙ sym e) (fits-at text).stop
