-- The index of a text: a checkpoint at each multiple of a spacing, what the builder writes, and lookup from a checkpoint on.
use Rattle.std.specs.Prelude.{ℕ, zero, suc, ◌+◌, ◌-◌, ◌*◌, ◌/◌, Bool, cond, ◌&&◌, length, take, drop, ltb, leb}
use mathlib.Core.List.{List, [], ◌∷◌, foldl}
use Rattle.std.proofs.lemmas.List.Edits.{sets}
use Rattle.theory.specs.Reader.{Reader, Segment, cut}
use Rattle.theory.specs.Tally.{written}
use Rattle.theory.specs.Place.{Ruler, Found, past, unusable, lookup, last, mark}

-- f c, f (c + 1), ..: n of them
abbrev pub tab : {E : Type 0} → ℕ → ℕ → (ℕ → E) → List E
tab c zero f = []
tab c (suc n) f = f c ∷ tab (suc c) n f

-- entry k of a row of numbers
abbrev pub numbers_at : {P : Type 0} → ℕ → (List ℕ → P) → List ℕ → ℕ → P
numbers_at width dec row k = dec (take width (drop (width * k) row))

-- how many checkpoints a text of so many elements has
abbrev pub marks : ℕ → ℕ → ℕ
marks spacing n = suc (n / spacing)

-- THE INDEX OF A TEXT: checkpoint k is the last place at or before spacing × k
abbrev pub index : {K P : Type 0} → Reader K → Ruler K P → ℕ → List ℕ → List P
index look R spacing xs = tab zero (marks spacing (length xs)) (λ k. mark look R (spacing * k) xs)

-- ---- the builder

-- the last settled place, and the row of checkpoints
pub record Built (P : Type 0) : Type 0 where
  pub place : P
  pub row : List ℕ

module _ {K P : Type 0} (R : Ruler K P) (enc : P → List ℕ) (width spacing : ℕ) where
  -- the checkpoints above the old place and not above the new one
  abbrev pub due : P → List (Segment K) → List P
  due p ss =
      let old = marks spacing (R.bytes p) in
      let new = marks spacing (R.bytes (foldl R.step p ss)) in
      tab old (new - old) (λ k. last R.step R.bytes (spacing * k) p ss)

  -- what a run of segments writes
  abbrev pub build : Built P → List (Segment K) → Built P
  build t ss = record {
    place = foldl R.step t.place ss;
    row = sets t.row (width * marks spacing (R.bytes t.place)) (written enc (due t.place ss));
  }

  -- the action of one segment; checkpoint 0 is written at the start
  abbrev pub add : Built P → Segment K → Built P
  add t s = build t (s ∷ [])

  abbrev pub start_marked : List ℕ → Built P
  start_marked row = record { place = R.zeroth; row = sets row zero (enc R.zeroth) }

-- ---- lookup in an index, of which `ix k` is checkpoint k, whatever it holds

-- The choice by halving: low 0, high n; the middle becomes low where it passes the test. The first argument is a number of
-- turns that is large enough.
abbrev pub halve : ℕ → (ℕ → Bool) → ℕ → ℕ → ℕ
halve zero t low high = low
halve (suc f) t low high =
    let mid = (low + high) / 2 in
    let r = halve f t (cond (t mid) mid low) (cond (t mid) high mid) in
    cond (ltb 1 (high - low)) r low

-- `top` is the most elements that a segment has; `fair` tests the counts that are not in elements
module _ {K P : Type 0} (look : Reader K) (R : Ruler K P) (top spacing : ℕ) (fair : P → Bool) where
  -- a checkpoint is usable: near its number, its counts in range, and not past the offset
  abbrev pub usable : (P → ℕ) → ℕ → ℕ → P → Bool
  usable m o j q = leb (spacing * j) (R.bytes q + (top - 1)) && leb (R.bytes q) (spacing * j) && fair q && leb (m q) o

  -- plain lookup from a place on, which is handed the text from there
  abbrev pub resumed : (P → ℕ) → ℕ → P → List ℕ → Found P
  resumed m o p xs = lookup R.step m o p (cut look (drop (R.bytes p) xs))

  abbrev pub from : (P → ℕ) → ℕ → ℕ → P → List ℕ → Found P
  from m o j q xs = cond (usable m o j q) (resumed m o q xs) (unusable j)

  -- by bytes the checkpoint is chosen by division
  abbrev pub by_bytes : ℕ → (ℕ → P) → List ℕ → Found P
  by_bytes o ix xs = cond (ltb (length xs) o) past (from R.bytes o (o / spacing) (ix (o / spacing)) xs)

  -- by another measure by halving: `less` is `leb`, and for lines `ltb`
  abbrev pub by_halving : (P → ℕ) → (ℕ → ℕ → Bool) → ℕ → (ℕ → P) → List ℕ → Found P
  by_halving m less o ix xs =
      let n = marks spacing (length xs) in
      let j = halve n (λ k. less (m (ix k)) o) zero n in
      from m o j (ix j) xs
