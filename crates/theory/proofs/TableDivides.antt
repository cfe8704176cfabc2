-- The laws of a reader by a table, for any table: it is a division, holds little back, its damage is short, and only what is held back ends.
use mathlib.Core.Path.{◌≡◌, refl, sym, ap}
use Prim.Native.Nat.{ℕ, zero, suc, ◌≤◌, ◌<◌, max, suc-le-suc}
use native.Mathlib.Nat.{le_trans}
use mathlib.Core.Bool.{Bool, true, false, ◌&&◌, true≢false}
use mathlib.Core.List.{List, [], ◌∷◌, ◌++◌}
use mathlib.Core.Option.{none, some}
use lib.ListN.{length}
use lib.Dec.{leb}
use borrow.Author.Tests.{leb-true, le-leb, lt-leb}
use native.Mathlib.Omega.{arith}
use Rattle.theory.specs.Reader.{Look, parts}
use Rattle.theory.specs.Table.{Range, within, Row, ended, Kind, damage, is_damage, cause_of, longer, want, wanted_behind, lone, read}
use Rattle.theory.proofs.Cases.{split, both, All}
use Rattle.theory.proofs.Divisions.{Division, Holds, by_parts, parts-nil, parts-sure, parts-open}

-- ---- an element and a range

pub in_range : (r : Range) (x : ℕ) → within r x ≡ true → (r.low ≤ x) × (x ≤ r.high)
in_range r x e = let p = both (leb r.low x) (leb x r.high) e in (leb-true _ _ p.0, leb-true _ _ p.1)

pub in_yes : (r : Range) (x : ℕ) → r.low ≤ x → x ≤ r.high → within r x ≡ true
in_yes r x a b = rw (le-leb r.low x a, le-leb x r.high b)

pub in_under : (r : Range) (x : ℕ) → x < r.low → within r x ≡ false
in_under r x a = rw (lt-leb r.low x a)

pub in_over : (r : Range) (x : ℕ) → r.high < x → within r x ≡ false
in_over r x a = rw (lt-leb x r.high a) (and-false (leb r.low x))
  where
    and-false : (a : Bool) → a && false ≡ false
    and-false true = refl
    and-false false = refl

-- ---- a begun sequence

pub want_fits : (rs : List Range) (xs : List ℕ) → (want rs xs).more ≤ length xs
want_fits [] xs = omega arith
want_fits (r ∷ rs) [] = omega arith
want_fits (r ∷ rs) (x ∷ xs) = split (within r x) (λ e. rw e (suc-le-suc (want_fits rs xs))) (λ e. rw e (omega arith))

want-top : (rs : List Range) (xs : List ℕ) → (want rs xs).more ≤ length rs
want-top [] xs = omega arith
want-top (r ∷ rs) [] = omega arith
want-top (r ∷ rs) (x ∷ xs) = split (within r x) (λ e. rw e (suc-le-suc (want-top rs xs))) (λ e. rw e (omega arith))

want_stable : (rs : List Range) (xs ys : List ℕ) → (want rs xs).sure ≡ true → want rs (xs ++ ys) ≡ want rs xs
want_stable [] xs ys s = refl
want_stable (r ∷ rs) [] ys s = cc
want_stable (r ∷ rs) (x ∷ xs) ys s = split (within r x) (λ e. rw e (ap longer (want_stable rs xs ys (rw e at s)))) (λ e. rw e)

want-short : (rs : List Range) (xs : List ℕ) → (want rs xs).sure ≡ false → suc (length xs) ≤ length rs
want-short [] xs s = absurd (true≢false s)
want-short (r ∷ rs) [] s = omega arith
want-short (r ∷ rs) (x ∷ xs) s = split (within r x) (λ e. suc-le-suc (want-short rs xs (rw e at s))) (λ e. absurd (true≢false (rw e at s)))

want_grows : (rs : List Range) (xs ys : List ℕ) → (want rs xs).sure ≡ false → length xs ≤ (want rs (xs ++ ys)).more
want_grows [] xs ys s = absurd (true≢false s)
want_grows (r ∷ rs) [] ys s = omega arith
want_grows (r ∷ rs) (x ∷ xs) ys s = split (within r x) (λ e. rw e (suc-le-suc (want_grows rs xs ys (rw e at s)))) (λ e. absurd (true≢false (rw e at s)))

want_damage : (rs : List Range) (xs : List ℕ) → is_damage (want rs xs).tag ≡ true → suc (want rs xs).more ≤ length rs
want_damage [] xs s = absurd (true≢false (cc))
want_damage (r ∷ rs) [] s = omega arith
want_damage (r ∷ rs) (x ∷ xs) s = split (within r x) (λ e. rw e (suc-le-suc (want_damage rs xs (rw e at s)))) (λ e. rw e (omega arith))

-- a whole segment is sure
want-whole : (rs : List Range) (xs : List ℕ) → is_damage (want rs xs).tag ≡ false → (want rs xs).sure ≡ true
want-whole [] xs s = refl
want-whole (r ∷ rs) [] s = absurd (true≢false s)
want-whole (r ∷ rs) (x ∷ xs) s = split (within r x) (λ e. rw e (want-whole rs xs (rw e at s))) (λ e. rw e)

-- one that is not sure is stopped by the end of the text, and one that is sure by another element
want-ended : (rs : List Range) (xs : List ℕ) → (want rs xs).sure ≡ false → (want rs xs).tag ≡ damage ended
want-ended [] xs s = absurd (true≢false s)
want-ended (r ∷ rs) [] s = refl
want-ended (r ∷ rs) (x ∷ xs) s = split (within r x) (λ e. rw e (want-ended rs xs (rw e at s))) (λ e. absurd (true≢false (rw e at s)))

want-settled : (rs : List Range) (xs : List ℕ) → (want rs xs).sure ≡ true → cause_of (want rs xs).tag < ended
want-settled [] xs s = omega arith
want-settled (r ∷ rs) [] s = absurd (true≢false (sym s))
want-settled (r ∷ rs) (x ∷ xs) s = split (within r x) (λ e. rw e (want-settled rs xs (rw e at s))) (λ e. rw e (omega arith))

-- ---- and the reader, from them

-- the most that a row wants behind its first element
abbrev pub widest : List Row → ℕ
widest [] = zero
widest (w ∷ ws) = max (length w.later) (widest ws)

-- what holds of a lone element and of each row's sequences holds of what is read
pub read_case : (Q : Look Kind → Type 0) (rows : List Row) (cause : ℕ → ℕ) (x : ℕ) (xs : List ℕ) → Q (lone (cause x))
    → ((rs : List Range) → length rs ≤ widest rows → Q (want rs xs)) → Q (read rows cause x xs)
read_case Q [] cause x xs q f = q
read_case Q (w ∷ ws) cause x xs q f = split (within w.lead x)
    (λ e. rw e (f w.later (omega arith)))
    (λ e. rw e (read_case Q ws cause x xs q (λ rs h. f rs (omega arith))))

-- what holds of every row's sequences as the text goes on holds of what is read
read_stable : (rows : List Row) (cause : ℕ → ℕ) (x : ℕ) (xs ys : List ℕ) → (read rows cause x xs).sure ≡ true → read rows cause x (xs ++ ys) ≡ read rows cause x xs
read_stable [] cause x xs ys s = refl
read_stable (w ∷ ws) cause x xs ys s = split (within w.lead x)
    (λ e. rw e (want_stable w.later xs ys (rw e at s)))
    (λ e. rw e (read_stable ws cause x xs ys (rw e at s)))

read_grows : (rows : List Row) (cause : ℕ → ℕ) (x : ℕ) (xs ys : List ℕ) → (read rows cause x xs).sure ≡ false → length xs ≤ (read rows cause x (xs ++ ys)).more
read_grows [] cause x xs ys s = absurd (true≢false s)
read_grows (w ∷ ws) cause x xs ys s = split (within w.lead x)
    (λ e. rw e (want_grows w.later xs ys (rw e at s)))
    (λ e. rw e (read_grows ws cause x xs ys (rw e at s)))

module _ (rows : List Row) (cause : ℕ → ℕ) where
  -- A READER BY A TABLE IS A DIVISION
  pub table-division : Division (read rows cause)
  table-division = record {
    fits = λ x xs. read_case (λ l. l.more ≤ length xs) rows cause x xs (omega arith) (λ rs h. want_fits rs xs);
    stable = read_stable rows cause;
  }

  pub table-holds : Holds (read rows cause) (widest rows)
  table-holds = record {
    short = λ x xs. read_case (λ l. l.sure ≡ false → suc (length xs) ≤ widest rows) rows cause x xs (λ s. absurd (true≢false s)) (λ rs h s. le_trans (want-short rs xs s) h);
    grows = read_grows rows cause;
  }

  -- a segment has at most one element more than a row wants behind its first
  pub table-top : (x : ℕ) (xs : List ℕ) → (read rows cause x xs).more ≤ widest rows
  table-top x xs = read_case (λ l. l.more ≤ widest rows) rows cause x xs (omega arith) (λ rs h. le_trans (want-top rs xs) h)

  -- and damage has at most as many as that
  pub table-damage : 1 ≤ widest rows → (x : ℕ) (xs : List ℕ) → is_damage (read rows cause x xs).tag ≡ true → suc (read rows cause x xs).more ≤ widest rows
  table-damage w x xs =
      read_case (λ l. is_damage l.tag ≡ true → suc l.more ≤ widest rows) rows cause x xs (λ s. w) (λ rs h s. le_trans (want_damage rs xs s) h)

  pub table-whole : (x : ℕ) (xs : List ℕ) → is_damage (read rows cause x xs).tag ≡ false → (read rows cause x xs).sure ≡ true
  table-whole x xs = read_case (λ l. is_damage l.tag ≡ false → l.sure ≡ true) rows cause x xs (λ s. refl) (λ rs h. want-whole rs xs)

  -- what is not sure is damage that the end of the text stops
  pub table-ended : (x : ℕ) (xs : List ℕ) → (read rows cause x xs).sure ≡ false → (read rows cause x xs).tag ≡ damage ended
  table-ended x xs =
      read_case (λ l. l.sure ≡ false → l.tag ≡ damage ended) rows cause x xs (λ s. absurd (true≢false s)) (λ rs h. want-ended rs xs)

  -- and what is settled is not, wherever the text is cut
  pub settled-unended : ((x : ℕ) → cause x < ended) → (text : List ℕ) → All (λ s. cause_of s.tag < ended) (parts (read rows cause) text).done
  settled-unended own = by_parts (read rows cause) (λ (text : List ℕ). All (λ s. cause_of s.tag < ended) (parts (read rows cause) text).done)
      (rw parts-nil tt)
      (λ x xs e ih. rw (parts-sure (read rows cause) x xs e) (settled x xs e, ih))
      (λ x xs e. rw (parts-open (read rows cause) x xs e) tt)
    where
      settled : (x : ℕ) (xs : List ℕ) → (read rows cause x xs).sure ≡ true → cause_of (read rows cause x xs).tag < ended
      settled x xs = read_case (λ l. l.sure ≡ true → cause_of l.tag < ended) rows cause x xs (λ s. own x) (λ rs h. want-settled rs xs)

-- ---- the row of an element: those in front of it have smaller leads, and those behind it greater ones

pub begun-row : (pre : List Row) (w : Row) (post : List Row) (x : ℕ) → All (λ v. v.lead.high < x) pre → w.lead.low ≤ x → x ≤ w.lead.high
    → wanted_behind (pre ++ w ∷ post) x ≡ some w.later
begun-row [] w post x a l h = rw (in_yes w.lead x l h)
begun-row (v ∷ pre) w post x a l h = rw (in_over v.lead x a.0) (begun-row pre w post x a.1 l h)

pub begun-none : (pre post : List Row) (x : ℕ) → All (λ v. v.lead.high < x) pre → All (λ v. x < v.lead.low) post → wanted_behind (pre ++ post) x ≡ none
begun-none [] [] x a b = refl
begun-none [] (v ∷ post) x a b = rw (in_under v.lead x b.0) (begun-none [] post x a b.1)
begun-none (v ∷ pre) post x a b = rw (in_over v.lead x a.0) (begun-none pre post x a.1 b)
