-- The laws of a division: its equations, induction by segments, that it loses nothing, and the law of a stream.
use mathlib.Core.Path.{◌≡◌, refl, sym, ap, ◌∙◌}
use Prim.Native.Nat.{ℕ, zero, suc, ◌+◌, ◌≤◌}
use native.Mathlib.Nat.{le_antisymm, suc-add}
use mathlib.Core.Bool.{true, false}
use mathlib.Core.List.{List, [], ◌∷◌, ◌++◌, map, append_assoc, append-nil, map-append}
use lib.ListN.{length, take, drop, length-append, length-map, take-append-drop}
use lib.Seq.{take-append-le, drop-append-le, take-length, drop-length, drop-drop, length-take-le}
use borrow.Author.Tests.{not-true}
use native.Mathlib.Omega.{arith}
use Rattle.theory.specs.Reader.{Look, Reader, Segment, body, Parts, onto, first, rest, cut_from, cut, parts_from, parts, pending}
use Rattle.theory.specs.Tally.{written, total, size}
use Rattle.theory.proofs.Cases.{split, by-ends}

-- What makes a reader a division: it takes no more than there is, and what is sure stays as it is when the text goes on.
pub record Division {K : Type 0} (look : Reader K) : Type 0 where
  pub fits : (x : ℕ) (xs : List ℕ) → (look x xs).more ≤ length xs
  pub stable : (x : ℕ) (xs ys : List ℕ) → (look x xs).sure ≡ true → look x (xs ++ ys) ≡ look x xs

-- What is not sure is short, and no part of it is the end of a segment, whatever follows.
pub record Holds {K : Type 0} (look : Reader K) (hold : ℕ) : Type 0 where
  pub short : (x : ℕ) (xs : List ℕ) → (look x xs).sure ≡ false → suc (length xs) ≤ hold
  pub grows : (x : ℕ) (xs ys : List ℕ) → (look x xs).sure ≡ false → length xs ≤ (look x (xs ++ ys)).more

-- a reader that sees each element through a map is a division where the reader is one
pub through_division : {K : Type 0} (look : Reader K) (f : ℕ → ℕ) → Division look → Division (λ x xs. look (f x) (map f xs))
through_division look f d = record {
  fits = λ x xs. rw (length-map xs f) at (d.fits (f x) (map f xs));
  stable = λ x xs ys s. rw (map-append f xs ys) (d.stable (f x) (map f xs) (map f ys) s);
}

-- more settled segments in front
abbrev pub before : {K : Type 0} → List (Segment K) → Parts K → Parts K
before ss p = record { done = ss ++ p.done; left = p.left }

-- ---- written forms and totals of two runs of segments

module _ {A E : Type 0} (w : E → List A) where
  pub written-append : (es fs : List E) → written w (es ++ fs) ≡ written w es ++ written w fs
  written-append [] fs = refl
  written-append (e ∷ es) fs = ap (λ (r : List A). w e ++ r) (written-append es fs) ∙ sym (append_assoc (w e) (written w es) (written w fs))

  pub length-written : (es : List E) → length (written w es) ≡ total (λ e. length (w e)) es
  length-written [] = refl
  length-written (e ∷ es) = rw length-append (ap (λ (n : ℕ). length (w e) + n) (length-written es))

pub total_append : {E : Type 0} (f : E → ℕ) (es fs : List E) → total f (es ++ fs) ≡ total f es + total f fs
total_append f [] fs = omega arith
total_append f (e ∷ es) fs = omega (arith, total_append f es fs)

-- ---- of any reader: the equations, after which nothing looks at the recursion

module _ {K : Type 0} (look : Reader K) where
  cutFrom-drop : (k : ℕ) (xs : List ℕ) → cut_from look k xs ≡ cut_from look zero (drop k xs)
  unfolding cut_from
  cutFrom-drop zero xs = refl
  cutFrom-drop (suc k) [] = refl
  cutFrom-drop (suc k) (x ∷ xs) = cutFrom-drop k xs

  partsFrom-drop : (k : ℕ) (xs : List ℕ) → parts_from look k xs ≡ parts_from look zero (drop k xs)
  unfolding parts_from
  partsFrom-drop zero xs = refl
  partsFrom-drop (suc k) [] = refl
  partsFrom-drop (suc k) (x ∷ xs) = partsFrom-drop k xs

  pub cut-nil : cut look [] ≡ []
  unfolding cut cut_from
  cut-nil = refl

  pub cut-cons : (x : ℕ) (xs : List ℕ) → cut look (x ∷ xs) ≡ first look x xs ∷ cut look (rest look x xs)
  unfolding cut cut_from
  cut-cons x xs = ap (λ (r : List (Segment K)). first look x xs ∷ r) (cutFrom-drop (look x xs).more xs)

  pub parts-nil : parts look [] ≡ record { done = []; left = [] }
  unfolding parts parts_from
  parts-nil = refl

  pub parts-sure : (x : ℕ) (xs : List ℕ) → (look x xs).sure ≡ true → parts look (x ∷ xs) ≡ onto (first look x xs) (parts look (rest look x xs))
  unfolding parts parts_from
  parts-sure x xs e = rw (e, partsFrom-drop (look x xs).more xs)

  pub parts-open : (x : ℕ) (xs : List ℕ) → (look x xs).sure ≡ false → parts look (x ∷ xs) ≡ record { done = []; left = x ∷ xs }
  unfolding parts parts_from
  parts-open x xs e = rw e

  -- INDUCTION BY SEGMENTS
  pub by-segments {ℓ} : (P : List ℕ → Type ℓ) → P [] → ((x : ℕ) (xs : List ℕ) → P (rest look x xs) → P (x ∷ xs)) → (xs : List ℕ) → P xs
  by-segments P nil cons = by-ends P nil (λ x xs ih. cons x xs (ih (look x xs).more))

  -- and one that asks at each segment whether it is sure
  pub by_parts {ℓ} : (P : List ℕ → Type ℓ) → P []
      → ((x : ℕ) (xs : List ℕ) → (look x xs).sure ≡ true → P (rest look x xs) → P (x ∷ xs))
      → ((x : ℕ) (xs : List ℕ) → (look x xs).sure ≡ false → P (x ∷ xs)) → (xs : List ℕ) → P xs
  by_parts P nil sure unsure = by-segments P nil (λ x xs ih. split (look x xs).sure (λ e. sure x xs e ih) (unsure x xs))

  -- A DIVISION LOSES NOTHING: its segments' elements, joined, are the text
  pub cut-text : (xs : List ℕ) → written body (cut look xs) ≡ xs
  cut-text = by-segments (λ (xs : List ℕ). written body (cut look xs) ≡ xs)
      (rw cut-nil)
      (λ x xs ih. rw (cut-cons x xs, ih) (ap (λ (r : List ℕ). x ∷ r) (take-append-drop (look x xs).more xs)))

  pub cut-size : (xs : List ℕ) → total size (cut look xs) ≡ length xs
  cut-size xs = sym (length-written body (cut look xs)) ∙ ap length (cut-text xs)

  -- the division of the whole text: the settled segments, and then those of what is left
  pub cut_parts : (xs : List ℕ) → cut look xs ≡ (parts look xs).done ++ cut look (parts look xs).left
  cut_parts = by_parts (λ (xs : List ℕ). cut look xs ≡ (parts look xs).done ++ cut look (parts look xs).left)
      (rw parts-nil)
      (λ x xs e ih. rw (parts-sure x xs e) (cut-cons x xs ∙ rw ih))
      (λ x xs e. rw (parts-open x xs e))

  pub parts-text : (xs : List ℕ) → written body (parts look xs).done ++ (parts look xs).left ≡ xs
  parts-text xs =
      rw (
        ← cut-text (parts look xs).left,
        ← written-append body (parts look xs).done (cut look (parts look xs).left),
        ← cut_parts xs,
      ) (cut-text xs)

  pub parts-size : (xs : List ℕ) → total size (parts look xs).done + length (parts look xs).left ≡ length xs
  parts-size xs = rw (← length-written body (parts look xs).done, ← length-append) (ap length (parts-text xs))

  -- what is left is pending, and of what is pending nothing is settled
  pub left-pending : (xs : List ℕ) → pending look (parts look xs).left ≡ true
  left-pending = by_parts (λ (xs : List ℕ). pending look (parts look xs).left ≡ true)
      (rw parts-nil)
      (λ x xs e ih. rw (parts-sure x xs e) ih)
      (λ x xs e. rw (parts-open x xs e, e))

  pub parts-pending : (xs : List ℕ) → pending look xs ≡ true → parts look xs ≡ record { done = []; left = xs }
  parts-pending [] p = parts-nil
  parts-pending (x ∷ xs) p = parts-open x xs (not-true (look x xs).sure p)

-- ---- of a division: more text behind

module _ {K : Type 0} {look : Reader K} (D : Division look) where
  pub first-size : (x : ℕ) (xs : List ℕ) → size (first look x xs) ≡ suc (look x xs).more
  first-size x xs = ap suc (length-take-le (look x xs).more xs (D.fits x xs))

  module _ (x : ℕ) (xs ys : List ℕ) (e : (look x xs).sure ≡ true) where
    first-append : first look x (xs ++ ys) ≡ first look x xs
    first-append =
        ap (λ (l : Look K). record { head = x; tail = take l.more (xs ++ ys); tag = l.tag }) (D.stable x xs ys e)
        ∙ rw (take-append-le (look x xs).more xs ys (D.fits x xs))

    rest-append : rest look x (xs ++ ys) ≡ rest look x xs ++ ys
    rest-append = ap (λ (l : Look K). drop l.more (xs ++ ys)) (D.stable x xs ys e) ∙ drop-append-le (look x xs).more xs ys (D.fits x xs)

    sure-append : parts look (x ∷ (xs ++ ys)) ≡ onto (first look x xs) (parts look (rest look x xs ++ ys))
    sure-append = parts-sure look x (xs ++ ys) (ap (λ (l : Look K). l.sure) (D.stable x xs ys e) ∙ e) ∙ rw (first-append, rest-append)

  -- THE LAW OF A STREAM: what was settled stays, and the rest is divided from what was left
  pub parts-append : (xs ys : List ℕ) → parts look (xs ++ ys) ≡ before (parts look xs).done (parts look ((parts look xs).left ++ ys))
  parts-append xs ys = by_parts look (λ (xs : List ℕ). parts look (xs ++ ys) ≡ before (parts look xs).done (parts look ((parts look xs).left ++ ys)))
      (rw (parts-nil look))
      (λ x xs e ih. rw (parts-sure look x xs e) (sure-append x xs ys e ∙ rw ih))
      (λ x xs e. rw (parts-open look x xs e))
      xs

  pub cut-append : (xs ys : List ℕ) → cut look (xs ++ ys) ≡ (parts look xs).done ++ cut look ((parts look xs).left ++ ys)
  cut-append xs ys = cut_parts look (xs ++ ys) ∙ rw (parts-append xs ys, cut_parts look ((parts look xs).left ++ ys), append_assoc)

  -- the segments behind some of a text's segments are those of the text from there on
  pub cut-drop : (hs bs : List (Segment K)) (xs : List ℕ) → cut look xs ≡ hs ++ bs → bs ≡ cut look (drop (total size hs) xs)
  cut-drop [] bs xs e = sym e
  cut-drop (s ∷ hs) bs [] e =
      let e' : [] ≡ s ∷ (hs ++ bs) = rw cut-nil at e in
      cc
  cut-drop (s ∷ hs) bs (x ∷ xs) e =
      let e' : first look x xs ∷ cut look (rest look x xs) ≡ s ∷ (hs ++ bs) = rw (cut-cons look x xs) at e in
      let i : s ≡ first look x xs = cc in
      let j : cut look (rest look x xs) ≡ hs ++ bs = cc in
      rw (i, length-take-le (look x xs).more xs (D.fits x xs), suc-add, ← drop-drop (total size hs) (look x xs).more xs)
      (cut-drop hs bs (rest look x xs) j)

-- ---- what is pending is at most `hold` elements, and would end the text as one segment

module _ {K : Type 0} {look : Reader K} (D : Division look) (hold : ℕ) (H : Holds look hold) where
  pub pending-short : (xs : List ℕ) → pending look xs ≡ true → length xs ≤ hold
  pending-short [] p = omega arith
  pending-short (x ∷ xs) p = H.short x xs (not-true (look x xs).sure p)

  pub takes_all : (x : ℕ) (xs : List ℕ) → (look x xs).sure ≡ false → (look x xs).more ≡ length xs
  takes_all x xs e = le_antisymm (D.fits x xs) (rw append-nil at (H.grows x xs [] e))

  pub cut-pending : (x : ℕ) (xs : List ℕ) → (look x xs).sure ≡ false
      → cut look (x ∷ xs) ≡ record { head = x; tail = xs; tag = (look x xs).tag } ∷ []
  cut-pending x xs e =
      let m : (look x xs).more ≡ length xs = takes_all x xs e in
      cut-cons look x xs ∙ rw (m, take-length, drop-length, cut-nil)
