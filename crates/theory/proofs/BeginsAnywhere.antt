-- AN ELEMENT THAT GOES ON WITH NO SEQUENCE BEGINS A SEGMENT WHEREVER IT STANDS, for any table: a text divides in front of it.
use mathlib.Core.Path.{◌≡◌, refl, sym, ◌∙◌}
use Prim.Native.Nat.{ℕ, ◌≤◌, suc-le-suc}
use mathlib.Core.Bool.{Bool, true, false, ◌&&◌, true≢false}
use mathlib.Core.List.{List, [], ◌∷◌, ◌++◌}
use lib.ListN.{length, drop, length-drop}
use lib.Seq.{drop-append-le}
use lib.Dec.{leb}
use borrow.Author.Tests.{leb-true}
use native.Mathlib.Omega.{arith}
use Rattle.theory.specs.Reader.{Reader, Segment, first, rest, cut}
use Rattle.theory.specs.Tally.{total, size}
use Rattle.theory.specs.Table.{Range, within, Row, want, read}
use Rattle.theory.proofs.Cases.{split, both, under, by-ends}
use Rattle.theory.proofs.Divisions.{Division, cut-cons, first-size}
use Rattle.theory.proofs.TableDivides.{in_yes, in_under, in_over, table-division}

-- the ranges of later elements lie in one range: a test, which computes at a table
abbrev inside : Range → List Range → Bool
inside all [] = true
inside all (r ∷ rs) = leb all.low r.low && (leb r.high all.high && inside all rs)

abbrev pub later_inside : Range → List Row → Bool
later_inside all [] = true
later_inside all (w ∷ ws) = inside all w.later && later_inside all ws

-- ---- no segment that begins before an element outside that range has it

module _ (all : Range) (y : ℕ) (ys : List ℕ) (out : within all y ≡ false) where
  barred : (r : Range) → all.low ≤ r.low → r.high ≤ all.high → within r y ≡ false
  barred r a b = under y r.low
      (in_under r y)
      (λ l. under r.high y (in_over r y) (λ h. absurd (true≢false (sym (in_yes all y (omega arith) (omega arith)) ∙ out))))

  want-stops : (rs : List Range) → inside all rs ≡ true → (xs : List ℕ) → (want rs (xs ++ y ∷ ys)).more ≤ length xs
  want-stops [] t xs = omega arith
  want-stops (r ∷ rs) t [] =
      let a = both (leb all.low r.low) (leb r.high all.high && inside all rs) t in
      let b = both (leb r.high all.high) (inside all rs) a.1 in
      rw (barred r (leb-true _ _ a.0) (leb-true _ _ b.0)) (omega arith)
  want-stops (r ∷ rs) t (x ∷ xs) =
      let a = both (leb all.low r.low) (leb r.high all.high && inside all rs) t in
      let b = both (leb r.high all.high) (inside all rs) a.1 in
      split (within r x) (λ e. rw e (suc-le-suc (want-stops rs b.1 xs))) (λ e. rw e (omega arith))

  read-stops : (rows : List Row) → later_inside all rows ≡ true → (cause : ℕ → ℕ) (x : ℕ) (xs : List ℕ)
      → (read rows cause x (xs ++ y ∷ ys)).more ≤ length xs
  read-stops [] t cause x xs = omega arith
  read-stops (w ∷ ws) t cause x xs =
      let a = both (inside all w.later) (later_inside all ws) t in
      split (within w.lead x)
      (λ e. rw e (want-stops w.later a.0 xs))
      (λ e. rw e (read-stops ws a.1 cause x xs))

-- ---- so the text in front of it divides by itself

-- some segments of so many elements, and then those of the rest
pub record InFront {K : Type 0} (look : Reader K) (text rest : List ℕ) (n : ℕ) : Type 0 where
  pub front : List (Segment K)
  pub divided : cut look text ≡ front ++ cut look rest
  pub sized : total size front ≡ n

module _ {K : Type 0} {look : Reader K} (D : Division look) (text : List ℕ)
    (stops : (x : ℕ) (xs : List ℕ) → (look x (xs ++ text)).more ≤ length xs) where
  in_front : (xs : List ℕ) → InFront look (xs ++ text) text (length xs)
  in_front = by-ends (λ (xs : List ℕ). InFront look (xs ++ text) text (length xs))
      (record { front = []; divided = refl; sized = refl })
      next
    where
      next : (x : ℕ) (xs : List ℕ) → ((k : ℕ) → InFront look (drop k xs ++ text) text (length (drop k xs)))
          → InFront look (x ∷ (xs ++ text)) text (length (x ∷ xs))
      next x xs ih =
          let n = (look x (xs ++ text)).more in
          let r = ih n in
          let behind : rest look x (xs ++ text) ≡ drop n xs ++ text = drop-append-le n xs text (stops x xs) in
          record {
            front = first look x (xs ++ text) ∷ r.front;
            divided = cut-cons look x (xs ++ text) ∙ rw (behind, r.divided);
            sized = omega (arith, first-size D x (xs ++ text), r.sized, length-drop n xs, stops x xs);
          }

-- THE LAW
pub begins_anywhere : (all : Range) (rows : List Row) → later_inside all rows ≡ true → (cause : ℕ → ℕ) (y : ℕ) → within all y ≡ false
    → (xs ys : List ℕ) → InFront (read rows cause) (xs ++ y ∷ ys) (y ∷ ys) (length xs)
begins_anywhere all rows t cause y out xs ys = in_front (table-division rows cause) (y ∷ ys) (read-stops all y ys out rows t cause) xs
