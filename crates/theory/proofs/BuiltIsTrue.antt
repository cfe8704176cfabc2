-- The laws of the index builder: two calls are one, the cutting does not matter, and what is built is a true index.
use mathlib.Core.Path.{◌≡◌, sym, ap, ap₂, ◌∙◌}
use Prim.Native.Nat.{ℕ, zero, ◌+◌, ◌-◌, ◌*◌, ◌/◌, ◌≤◌, ◌<◌, suc-le-suc}
use native.Mathlib.Nat.{zero-add, zero-div, suc-sub-suc, sub-zero, mul-zero, mul-one, mul-suc, mul-add, le_of_lt}
use mathlib.Core.List.{List, [], ◌∷◌, ◌++◌, foldl, foldl-append}
use lib.ListN.{length, take, drop, take-append-drop}
use lib.Seq.{sets}
use native.Mathlib.Omega.{arith}
use Rattle.theory.specs.Reader.{Reader, Segment, cut, parts}
use Rattle.theory.specs.Stream.{State, finish}
use Rattle.theory.specs.Tally.{written}
use Rattle.theory.specs.Place.{Ruler, last, mark}
use Rattle.theory.specs.Index.{tab, numbers_at, marks, index, Built, due, build, add, start_marked}
use Rattle.theory.proofs.Divisions.{Division, written-append, cut-size}
use Rattle.theory.proofs.AnyCalls.{Follows, follows-end}
use Rattle.theory.proofs.TalliesAdd.{sets_append}
use Rattle.theory.proofs.Rows.{div_in, div-out, div-up, div_mono, sets-comm, sets-sets}
use Rattle.theory.proofs.Rows.{tab-length, tab-append, tab-same, written-fixed, written_at}
use Rattle.theory.proofs.PlacesFound.{climb, last-from, last-append, Measured, bytes_rise, bytes-mono, bytes-foldl, mark-zero}
use Rattle.theory.proofs.TrueIndexAnswers.{True}

module _ {K P : Type 0} {R : Ruler K P} (M : Measured R) (enc : P → List ℕ) (width spacing : ℕ) (pos : zero < spacing)
    (fixed : (p : P) → length (enc p) ≡ width) where
  -- how many checkpoints there are at a place
  abbrev count : P → ℕ
  count p = marks spacing (R.bytes p)

  count-mono : (p : P) (ss : List (Segment K)) → count p ≤ count (foldl R.step p ss)
  count-mono p ss =
      suc-le-suc (div_mono spacing pos (R.bytes p) (R.bytes (foldl R.step p ss)) (climb R.step R.bytes (bytes-mono M) p ss))

  due-append : (p : P) (ss ts : List (Segment K))
      → due R enc width spacing p (ss ++ ts) ≡ due R enc width spacing p ss ++ due R enc width spacing (foldl R.step p ss) ts
  due-append p ss ts =
      let q : P = foldl R.step p ss in
      let r : P = foldl R.step q ts in
      let c : count p ≤ count q = count-mono p ss in
      let d : count q ≤ count r = count-mono q ts in
      let n : count r - count p ≡ (count q - count p) + (count r - count q) = omega arith in
      let a : count p + (count q - count p) ≡ count q = omega arith in
      let f : ℕ → P = λ k. last R.step R.bytes (spacing * k) p (ss ++ ts) in
      let old : tab (count p) (count q - count p) f ≡ due R enc width spacing p ss
      = tab-same (count p) (count q - count p) f (λ k. last R.step R.bytes (spacing * k) p ss)
      (λ k lo hi. last-append R.step R.bytes (bytes_rise M) (spacing * k) p ss ts (div_in spacing (R.bytes q) k (omega arith))) in
      let new : tab (count q) (count r - count q) f ≡ due R enc width spacing q ts
      = tab-same (count q) (count r - count q) f (λ k. last R.step R.bytes (spacing * k) q ts)
      (λ k lo hi. last-from R.step R.bytes (bytes-mono M) (spacing * k) p ss ts (le_of_lt (div-out spacing pos (R.bytes q) k lo))) in
      rw (foldl-append, n) (tab-append (count p) (count q - count p) (count r - count q) f ∙ rw a (ap₂ ◌++◌ old new))

  -- TWO CALLS, one behind the other, ARE ONE
  pub build-append : (t : Built P) (ss ts : List (Segment K))
      → build R enc width spacing t (ss ++ ts) ≡ build R enc width spacing (build R enc width spacing t ss) ts
  build-append t ss ts =
      let p : P = t.place in
      let q : P = foldl R.step p ss in
      let c : count p ≤ count q = count-mono p ss in
      let l : width * count p + length (written enc (due R enc width spacing p ss)) ≡ width * count q
      = rw (written-fixed enc width fixed, tab-length, ← mul-add) (ap (λ (k : ℕ). width * k) (omega arith)) in
      rw (due-append p ss ts, written-append, sets_append, foldl-append, l)

  build-nil : (t : Built P) → build R enc width spacing t [] ≡ t
  build-nil t = let z : count t.place - count t.place ≡ zero = omega arith in rw z

  -- and the segments one by one do as their run
  pub build-foldl : (t : Built P) (ss : List (Segment K)) → foldl (add R enc width spacing) t ss ≡ build R enc width spacing t ss
  build-foldl t [] = sym (build-nil t)
  build-foldl t (s ∷ ss) = build-foldl (add R enc width spacing t s) ss ∙ sym (build-append t (s ∷ []) ss)

  -- a later call may write checkpoint 0 again
  pub build-again : (p : P) (row : List ℕ) (ss : List (Segment K))
      → let t : Built P = build R enc width spacing (record { place = p; row = sets row zero (enc R.zeroth) }) ss in
      sets t.row zero (enc R.zeroth) ≡ t.row
  build-again p row ss =
      let h : zero + length (enc R.zeroth) ≤ width * count p = omega (arith, fixed R.zeroth, mul-suc width (R.bytes p / spacing)) in
      rw (sets-comm row zero (enc R.zeroth) (width * count p) (written enc (due R enc width spacing p ss)) h) (sets-sets _ zero (enc R.zeroth))

  -- and a whole text's segments write its index
  built-is : (look : Reader K) (row xs : List ℕ)
      → (build R enc width spacing (start_marked R enc width spacing row) (cut look xs)).row ≡ sets row zero (written enc (index look R spacing xs))
  built-is look row xs =
      rw (
        bytes-foldl M R.zeroth (cut look xs),
        cut-size look xs,
        M.none,
        zero-div,
        zero-add,
        suc-sub-suc,
        sub-zero,
        mul-one,
        mul-zero,
        mark-zero look M xs,
        sets_append,
        fixed,
        zero-add,
      )

  -- THE CUTTING DOES NOT MATTER: what follows a text is built of it, however it came; and at the end the row holds its index,
  -- whatever it held before, and the rest of the row is as it was
  module _ {look : Reader K} (D : Division look) (row text : List ℕ) (s : State (Built P))
      (f : Follows D (add R enc width spacing) (start_marked R enc width spacing row) (λ (s : State (Built P)). s) text s) where
    pub built-so-far : s.kept ≡ build R enc width spacing (start_marked R enc width spacing row) (parts look text).done
    built-so-far = ap (λ (s : State (Built P)). s.kept) f ∙ build-foldl (start_marked R enc width spacing row) (parts look text).done

    pub built-at-end : (finish look (add R enc width spacing) s).row ≡ sets row zero (written enc (index look R spacing text))
    built-at-end =
        ap (λ (t : Built P). t.row)
        (follows-end D (add R enc width spacing) (start_marked R enc width spacing row) (λ (s : State (Built P)). s) text s f
        ∙ build-foldl (start_marked R enc width spacing row) (cut look text))
        ∙ built-is look row text

  -- ---- A ROW THAT STARTS WITH THE INDEX IS A TRUE INDEX, where what is written can be read back

  module _ (dec : List ℕ → P) (back : (p : P) → dec (enc p) ≡ p) where
    pub row-true : (look : Reader K) (row xs : List ℕ) → take (width * marks spacing (length xs)) row ≡ written enc (index look R spacing xs)
        → True look R spacing (numbers_at width dec row) xs
    row-true look row xs e k h =
        let n : ℕ = marks spacing (length xs) in
        let f : ℕ → P = λ k. mark look R (spacing * k) xs in
        let w : row ≡ written enc (index look R spacing xs) ++ drop (width * n) row = rw (← e) (sym (take-append-drop (width * n) row)) in
        ap (λ (r : List ℕ). numbers_at width dec r k) w
        ∙ ap dec (written_at enc width fixed k zero n f (drop (width * n) row) (suc-le-suc (div-up spacing pos (length xs) k h)))
        ∙ rw (zero-add, back)
