-- The two sums over parts of a text: byte by byte, block by block, and where it is filled up with later bytes.
use mathlib.Core.Path.{◌≡◌, refl, sym, ap, ◌∙◌}
use Prim.Native.Nat.{ℕ, zero, suc, ◌+◌, ◌≤◌, ◌<◌}
use native.Mathlib.Numerals.{add-one}
use mathlib.Core.List.{List, [], ◌∷◌, ◌++◌}
use lib.ListN.{length, get_or, take, drop, replicate, take-append-drop}
use lib.Seq.{drop-cons}
use lib.Dec.{leb}
use native.Mathlib.Omega.{arith}
use Rattle.theory.specs.Tally.{total}
use Rattle.theory.proofs.Cases.{split}
use Rattle.theory.proofs.Divisions.{total_append}
use Rattle.utf8_scan.specs.Stands.{is_later}
use Rattle.utf8_count.specs.Counts.{start_of, four_of, sums_of}
use Rattle.utf8_count.specs.declared.Sums.{Sums}

-- ---- a byte counts one or nothing, so that a text counts no more than its length

pub start-few : (x : ℕ) → start_of x ≤ 1
start-few x = split (is_later x) (λ e. rw e (omega arith)) (λ e. rw e (omega arith))

pub four-few : (x : ℕ) → four_of x ≤ 1
four-few x = split (leb 0xF0 x) (λ e. rw e (omega arith)) (λ e. rw e (omega arith))

pub total-few : (f : ℕ → ℕ) → ((x : ℕ) → f x ≤ 1) → (xs : List ℕ) → total f xs ≤ length xs
total-few f few [] = omega arith
total-few f few (x ∷ xs) = omega (arith, few x, total-few f few xs)

-- ---- the counts of a text but for a part that is left

pub record Counted (text left : List ℕ) (starts fours : ℕ) : Type 0 where
  pub starts-are : starts + total start_of left ≡ total start_of text
  pub fours-are : fours + total four_of left ≡ total four_of text

pub counted_none : (text : List ℕ) → Counted text text 0 0
counted_none text = record { starts-are = omega arith; fours-are = omega arith }

total-rest : (f : ℕ → ℕ) (n : ℕ) (xs : List ℕ) → total f xs ≡ total f (take n xs) + total f (drop n xs)
total-rest f n xs = ap (total f) (sym (take-append-drop n xs)) ∙ total_append f (take n xs) (drop n xs)

total-next : (f : ℕ → ℕ) (k : ℕ) (xs : List ℕ) → k < length xs → total f (drop k xs) ≡ f (get_or xs k 0) + total f (drop (k + 1) xs)
total-next f k xs h = rw (drop-cons xs k 0 h, add-one k) refl

module _ (text left : List ℕ) (starts fours : ℕ) (c : Counted text left starts fours) where
  -- neither sum is more than the text's length
  pub counted-few : (starts ≤ length text) × (fours ≤ length text)
  counted-few =
      (omega (arith, c.starts-are, total-few start_of start-few text), omega (arith, c.fours-are, total-few four_of four-few text))

  -- n bytes more
  pub counted-more : (n : ℕ) (q : Sums) → q ≡ sums_of (take n left) → Counted text (drop n left) (starts + q.starts) (fours + q.fours)
  counted-more n q e = record {
    starts-are = rw e (omega (arith, c.starts-are, total-rest start_of n left));
    fours-are = rw e (omega (arith, c.fours-are, total-rest four_of n left));
  }

  -- all of them
  pub counted-fits : (q : Sums) → q ≡ sums_of left → (starts + q.starts ≤ length text) × (fours + q.fours ≤ length text)
  counted-fits q e =
      rw e (omega (arith, c.starts-are, total-few start_of start-few text), omega (arith, c.fours-are, total-few four_of four-few text))

  pub counted-all : (q : Sums) → q ≡ sums_of left → record { starts = starts + q.starts; fours = fours + q.fours } ≡ sums_of text
  counted-all q e = rw (e, c.starts-are, c.fours-are)

  pub counted_whole : length left ≡ 0 → record { starts = starts; fours = fours } ≡ sums_of text
  counted_whole z =
      let s : starts ≡ total start_of text = omega (arith, c.starts-are, total-few start_of start-few left) in
      let f : fours ≡ total four_of text = omega (arith, c.fours-are, total-few four_of four-few left) in
      rw (s, f)

-- one byte more
pub counted_next : (text : List ℕ) (k starts fours : ℕ) → k < length text → Counted text (drop k text) starts fours
    → let x = get_or text k 0 in Counted text (drop (k + 1) text) (starts + start_of x) (fours + four_of x)
counted_next text k starts fours h c = record {
  starts-are = omega (arith, c.starts-are, total-next start_of k text h);
  fours-are = omega (arith, c.fours-are, total-next four_of k text h);
}

-- ---- a text that is filled up with later bytes to n

abbrev pub filler : ℕ → List ℕ
filler n = replicate n 0x80

none_more : (f : ℕ → ℕ) → f 0x80 ≡ 0 → (n k : ℕ) → total f (drop k (filler n)) ≡ 0
none_more f z zero zero = refl
none_more f z zero (suc k) = refl
none_more f z (suc n) zero = omega (arith, z, none_more f z n zero)
none_more f z (suc n) (suc k) = none_more f z n k

total-filled : (f : ℕ → ℕ) → f 0x80 ≡ 0 → (text : List ℕ) (n k : ℕ) → total f (text ++ drop k (filler n)) ≡ total f text
total-filled f z text n k = omega (arith, total_append f text (drop k (filler n)), none_more f z n k)

pub filled-sums : (text : List ℕ) (n k : ℕ) → sums_of (text ++ drop k (filler n)) ≡ sums_of text
filled-sums text n k = rw (total-filled start_of refl text n k, total-filled four_of refl text n k)
