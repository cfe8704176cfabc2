-- The seam of what is pending and a piece: its first segment is that of both, and reaches over all that is pending.
use mathlib.Core.Path.{◌≡◌, refl, sym, ap, ◌∙◌}
use Prim.Native.Nat.{ℕ, ◌+◌, ◌-◌, ◌≤◌, ◌<◌}
use mathlib.Core.Bool.{true, false}
use mathlib.Core.List.{List, [], ◌∷◌, ◌++◌}
use lib.ListN.{length, take, drop, length-append, length-take, take-append-drop}
use lib.Seq.{take_all, take-take, drop-append-add}
use lib.Dec.{eqb}
use borrow.Author.Tests.{not-true, eqb-true, eqb-false}
use native.Mathlib.Omega.{arith}
use Rattle.theory.specs.Reader.{Look, Reader, parts, pending}
use Rattle.theory.specs.Reader as reader
use Rattle.theory.specs.Tally.{total, size}
use Rattle.theory.proofs.Cases.{split}
use Rattle.theory.proofs.Divisions.{before, pending-short}
use Rattle.terms.specs.Limits.{most_pending}
use Rattle.utf8_pending.specs.Tail.{first_settled, four, seamed}
use Rattle.utf8_pending.proofs.SettledFirst.{Short, settled-sure, settled-open, settled-nil, one_size, settled-parts, settled-inside, settled-none, pending-none}

-- ---- of any two texts

drop-over : (xs ys : List ℕ) (n : ℕ) → length xs ≤ n → drop n (xs ++ ys) ≡ drop (n - length xs) ys
drop-over xs ys n h =
    let e : n ≡ length xs + (n - length xs) = omega arith in
    ap (λ (k : ℕ). drop k (xs ++ ys)) e ∙ drop-append-add xs ys (n - length xs)

no_length : (xs : List ℕ) → length xs ≡ 0 → xs ≡ []
no_length [] e = refl
no_length (x ∷ xs) e = absurd (omega arith)

-- the seam as it is read: empty where nothing is pending
pub seamed_empty : (tail piece : List ℕ) → length tail ≡ 0 → seamed tail piece ≡ []
seamed_empty [] piece z = refl
seamed_empty (x ∷ xs) piece z = absurd (omega arith)

pub seamed-some : (tail piece : List ℕ) → (length tail ≡ 0 → ⊥) → seamed tail piece ≡ four tail piece
seamed-some [] piece p = absurd (p refl)
seamed-some (x ∷ xs) piece p = refl

-- ---- by a short reader

module _ {K : Type 0} {look : Reader K} (S : Short look) where
  -- the first segment of a text is that of its first four bytes
  module _ (x : ℕ) (xs : List ℕ) where
    four-sure : (look x (take 3 xs)).sure ≡ true → first_settled look (x ∷ take 3 xs) ≡ first_settled look (x ∷ xs)
    four-sure e =
        let l : look x xs ≡ look x (take 3 xs) = rw take-append-drop at (S.division.stable x (take 3 xs) (drop 3 xs) e) in
        let f : reader.first look x xs ≡ reader.first look x (take 3 xs)
        = ap (λ (k : Look K). record { head = x; tail = take k.more xs; tag = k.tag }) l
        ∙ rw (take-take (look x (take 3 xs)).more 3 xs (S.top x (take 3 xs))) in
        settled-sure look x (take 3 xs) e ∙ sym (settled-sure look x xs (ap (λ (k : Look K). k.sure) l ∙ e) ∙ rw f)

    four-open : (look x (take 3 xs)).sure ≡ false → first_settled look (x ∷ take 3 xs) ≡ first_settled look (x ∷ xs)
    four-open e =
        let h : length xs ≤ 3 = omega (arith, S.hold.short x (take 3 xs) e, length-take 3 xs) in
        rw (take_all 3 xs h)

  pub four-settled : (text : List ℕ) → first_settled look (take 4 text) ≡ first_settled look text
  four-settled [] = refl
  four-settled (x ∷ xs) = split (look x (take 3 xs)).sure (four-sure x xs) (four-open x xs)

  -- it reaches over what is pending, unless nothing is settled
  reaches : (tail piece : List ℕ) → pending look tail ≡ true → (total size (first_settled look (tail ++ piece)) ≡ 0 → ⊥)
      → length tail ≤ total size (first_settled look (tail ++ piece))
  reaches [] piece p n = omega arith
  reaches (x ∷ xs) piece p n = split (look x (xs ++ piece)).sure
      (λ e.
      rw (settled-sure look x (xs ++ piece) e, one_size S x (xs ++ piece))
      (omega (arith, S.hold.grows x xs piece (not-true (look x xs).sure p))))
      (λ e. absurd (n (rw (settled-open look x (xs ++ piece) e))))

  -- A SEAM, and the piece behind it
  module _ (tail piece : List ℕ) (begins : pending look tail ≡ true) where
    abbrev seam : List ℕ
    seam = four tail piece

    abbrev taken : ℕ
    taken = total size (first_settled look seam)

    -- nothing is settled: all of it is pending
    module _ (z : taken ≡ 0) where
      none : total size (first_settled look (tail ++ piece)) ≡ 0
      none = rw (four-settled (tail ++ piece)) at z

      short : length (tail ++ piece) ≤ most_pending
      short = pending-short S.division most_pending S.hold (tail ++ piece) (pending-none S (tail ++ piece) none)

      pub seam-all : seam ≡ tail ++ piece
      seam-all = take_all 4 (tail ++ piece) (omega (arith, short))

      pub seam-pending : parts look (tail ++ piece) ≡ record { done = []; left = seam }
      seam-pending = (settled-none S (tail ++ piece) none).1 ∙ rw seam-all

    -- the segment at the seam is settled, and the piece goes on behind it
    module _ (some : taken ≡ 0 → ⊥) where
      over : length tail ≤ total size (first_settled look (tail ++ piece))
      over = reaches tail piece begins (λ z. some (rw (four-settled (tail ++ piece)) z))

      pub seam-over : length tail ≤ taken
      seam-over = rw (four-settled (tail ++ piece)) over

      pub seam-inside : taken - length tail ≤ length piece
      seam-inside = rw (four-settled (tail ++ piece)) (omega (arith, settled-inside S (tail ++ piece), length-append tail piece))

      pub seam-behind : parts look (tail ++ piece) ≡ before (first_settled look seam) (parts look (drop (taken - length tail) piece))
      seam-behind =
          settled-parts S (tail ++ piece)
          ∙ rw (drop-over tail piece (total size (first_settled look (tail ++ piece))) over, four-settled (tail ++ piece))

  -- THE SEAM AS IT IS READ, of n pending bytes
  module _ (tail piece seam : List ℕ) (n : ℕ) (begins : pending look tail ≡ true) (long : length tail ≡ n) (seam-is : seam ≡ seamed tail piece) where
    abbrev reach : ℕ
    reach = total size (first_settled look seam)

    filled : (n ≡ 0 → ⊥) → seam ≡ four tail piece
    filled p = seam-is ∙ seamed-some tail piece (λ z. p (sym long ∙ z))

    empty : n ≡ 0 → (seam ≡ []) × (tail ≡ [])
    empty z = (seam-is ∙ seamed_empty tail piece (long ∙ z), no_length tail (long ∙ z))

    -- it does not reach over them: nothing is settled, and all of it is pending still
    pub read-still : reach < n → parts look (tail ++ piece) ≡ record { done = []; left = seam }
    read-still h =
        let e = filled (λ z. absurd (omega arith)) in
        split (eqb reach 0)
        (λ t. rw e (seam-pending tail piece begins (rw e at (eqb-true reach 0 t))))
        (λ t.
        let o : length tail ≤ reach = rw e (seam-over tail piece begins (rw e at (eqb-false reach 0 t))) in
        absurd (omega (arith, o, long)))

    -- it does, and the piece goes on behind it
    module _ (h : n ≤ reach) where
      some : (n ≡ 0 → ⊥) → total size (first_settled look (four tail piece)) ≡ 0 → ⊥
      some p z = p (omega (arith, h, ap (λ (xs : List ℕ). total size (first_settled look xs)) (filled p), z))

      pub read-inside : reach - n ≤ length piece
      read-inside = split (eqb n 0)
          (λ t. rw ((empty (eqb-true n 0 t)).0, settled-nil look) (omega arith))
          (λ t. let p = eqb-false n 0 t in rw (filled p, ← long) (seam-inside tail piece begins (some p)))

      pub read_behind : parts look (tail ++ piece) ≡ before (first_settled look seam) (parts look (drop (reach - n) piece))
      read_behind = split (eqb n 0)
          (λ t. let z = eqb-true n 0 t in rw ((empty z).1, (empty z).0, z, settled-nil look))
          (λ t. let p = eqb-false n 0 t in rw (filled p, ← long) (seam-behind tail piece begins (some p)))
