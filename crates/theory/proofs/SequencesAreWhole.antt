-- The sequences of a table, row by row: each is read as one whole segment whatever follows, and every whole segment is one.
use mathlib.Core.Path.{◌≡◌, sym, subst, ◌∙◌}
use mathlib.Core.Logic.{inl, inr, ⊎_elim}
use Prim.Native.Nat.{ℕ, zero, suc, ◌≤◌}
use mathlib.Core.Bool.{true, false}
use mathlib.Core.List.{List, [], ◌∷◌, ◌++◌}
use lib.ListN.{length, take, length-append}
use lib.Seq.{take-append_seam, drop-append_seam}
use native.Mathlib.Omega.{arith}
use Rattle.theory.specs.Reader.{cut}
use Rattle.theory.specs.Table.{Range, Row, Kind, whole, is_damage, read}
use Rattle.theory.specs.Sequence.{Matches, Sequence, Whole, Stands}
use Rattle.theory.proofs.Divisions.{cut-cons}
use Rattle.theory.proofs.TableDivides.{in_range, in_yes, table-whole}
use Rattle.theory.proofs.OneDivision.{Sound, stands_read, only-read}

-- ---- a sequence given by its row's number, from the bounds of its elements

-- an element for each range, within its bounds
abbrev pub Bounds : List Range → List ℕ → Type 0
Bounds [] [] = Unit {0}
Bounds [] (x ∷ xs) = ⊥
Bounds (r ∷ rs) [] = ⊥
Bounds (r ∷ rs) (x ∷ xs) = (r.low ≤ x) × (x ≤ r.high) × Bounds rs xs

-- a sequence of row k, counted from 0
abbrev pub InRow : List Row → ℕ → List ℕ → Type 0
InRow [] k xs = ⊥
InRow (w ∷ ws) zero xs = Bounds (w.lead ∷ w.later) xs
InRow (w ∷ ws) (suc k) xs = InRow ws k xs

match_bounds : (rs : List Range) (xs : List ℕ) → Bounds rs xs → Matches rs xs
match_bounds [] [] b = tt
match_bounds [] (x ∷ xs) b = absurd b
match_bounds (r ∷ rs) [] b = absurd b
match_bounds (r ∷ rs) (x ∷ xs) b = (in_yes r x b.0 b.1, match_bounds rs xs b.2)

pub of_row : (rows : List Row) (k : ℕ) (xs : List ℕ) → InRow rows k xs → Sequence rows xs
of_row [] k xs b = absurd b
of_row (w ∷ ws) zero xs b = inl (match_bounds (w.lead ∷ w.later) xs b)
of_row (w ∷ ws) (suc k) xs b = inr (of_row ws k xs b)

-- ---- what holds of each row's sequences holds of every sequence

-- of elements in these ranges, one in each
abbrev pub Each : List Range → (List ℕ → Type 0) → Type 0
Each [] Q = Q []
Each (r ∷ rs) Q = (x : ℕ) → (r.low ≤ x) × (x ≤ r.high) → Each rs (λ xs. Q (x ∷ xs))

each_match : (rs : List Range) (Q : List ℕ → Type 0) → Each rs Q → (xs : List ℕ) → Matches rs xs → Q xs
each_match [] Q f [] m = f
each_match [] Q f (x ∷ xs) m = absurd m
each_match (r ∷ rs) Q f [] m = absurd m
each_match (r ∷ rs) Q f (x ∷ xs) m = each_match rs (λ ys. Q (x ∷ ys)) (f x (in_range r x m.0)) xs m.1

-- R, once Q is shown of each row's sequences
abbrev pub FromRows : List Row → (List ℕ → Type 0) → Type 0 → Type 0
FromRows [] Q R = R
FromRows (w ∷ ws) Q R = Each (w.lead ∷ w.later) Q → FromRows ws Q R

from-rows : (rows : List Row) (Q : List ℕ → Type 0) (R : Type 0) → (((xs : List ℕ) → Sequence rows xs → Q xs) → R) → FromRows rows Q R
from-rows [] Q R f = f (λ xs s. absurd s)
from-rows (w ∷ ws) Q R f = λ here. from-rows ws Q R (λ behind. f (λ xs s. ⊎_elim (each_match (w.lead ∷ w.later) Q here xs) (behind xs) s))

pub by_rows : (rows : List Row) (Q : List ℕ → Type 0) → FromRows rows Q ((xs : List ℕ) → Sequence rows xs → Q xs)
by_rows rows Q = from-rows rows Q ((xs : List ℕ) → Sequence rows xs → Q xs) (λ h. h)

-- ---- sequences and what is read

module _ (rows : List Row) (cause : ℕ → ℕ) (s : Sound zero rows) where
  -- A SEQUENCE IS READ AS ONE WHOLE SEGMENT, whatever follows
  pub read-sequence : (x : ℕ) (xs ys : List ℕ) → Sequence rows (x ∷ xs)
      → read rows cause x (xs ++ ys) ≡ record { more = length xs; tag = whole; sure = true }
  read-sequence x xs ys m =
      let w : Whole rows (x ∷ (xs ++ ys)) (suc (length xs)) = record {
        inside = omega (arith, length-append xs ys);
        sequence = rw (take-append_seam xs ys) m;
      } in
      let o = only-read rows cause s x (xs ++ ys) (suc (length xs)) whole w in
      let n : (read rows cause x (xs ++ ys)).more ≡ length xs = omega (arith, o.0) in
      let t : is_damage (read rows cause x (xs ++ ys)).tag ≡ false = cc o.1 in
      let u = table-whole rows cause x (xs ++ ys) t in
      λ i. record { more = n i; tag = sym o.1 i; sure = u i }

  pub cut-sequence : (x : ℕ) (xs ys : List ℕ) → Sequence rows (x ∷ xs)
      → cut (read rows cause) (x ∷ (xs ++ ys)) ≡ record { head = x; tail = xs; tag = whole } ∷ cut (read rows cause) ys
  cut-sequence x xs ys m = cut-cons (read rows cause) x (xs ++ ys) ∙ rw (read-sequence x xs ys m, take-append_seam xs ys, drop-append_seam xs ys)

  -- and a whole segment is a sequence
  pub whole-sequence : (x : ℕ) (xs : List ℕ) → (read rows cause x xs).tag ≡ whole → Sequence rows (x ∷ take (read rows cause x xs).more xs)
  whole-sequence x xs e = (subst (λ (t : Kind). Stands rows (x ∷ xs) cause (suc (read rows cause x xs).more) t) e (stands_read rows cause s x xs)).sequence
