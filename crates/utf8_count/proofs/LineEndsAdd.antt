-- Line ends over parts of a text: byte by byte and part by part, few, and none that begins with a later byte.
use mathlib.Core.Path.{◌≡◌, refl, sym, ap, ◌∙◌}
use Prim.Native.Nat.{ℕ, zero, suc, ◌+◌, ◌-◌, ◌≤◌, ◌<◌, min}
use native.Mathlib.Nat.{zero-add}
use mathlib.Core.Bool.{Bool, true, false, cond}
use mathlib.Core.Logic.{◌⊎◌, inl, inr}
use mathlib.Core.List.{List, [], ◌∷◌, ◌++◌}
use lib.ListN.{length, get_or, drop, length-drop}
use lib.Seq.{drop-drop, drop-length}
use lib.Dec.{leb, ltb, eqb}
use borrow.Author.Tests.{leb-true, ltb-true, ne_eqb}
use native.Mathlib.Omega.{arith}
use Rattle.theory.proofs.Cases.{split, under, both}
use Rattle.utf8_scan.specs.Stands.{is_later}
use Rattle.utf8_count.specs.Counts.{end_of, end_first, ends_in}
use Rattle.utf8_count.specs.Inside.Ends.{short_end, long_of}
use Rattle.utf8_count.proofs.SumsOfSegments.{Laters}

-- ---- what begins with one byte

either-few : (b : Bool) (m n : ℕ) → m ≤ 1 → n ≤ 1 → cond b m n ≤ 1
either-few true m n h k = h
either-few false m n h k = k

pub end-few : (x y z : ℕ) → end_of x y z ≤ 1
unfolding end_of
end-few x y z =
    either-few (eqb x 0x0A) 1 _ (omega arith)
    (either-few (eqb x 0x0D) _ _ (either-few (eqb y 0x0A) 0 1 (omega arith) (omega arith))
    (either-few (eqb x 0xC2) _ _ (either-few (eqb y 0x85) 1 0 (omega arith) (omega arith))
    (either-few (eqb x 0xE2) _ 0
    (either-few (eqb y 0x80) _ 0 (either-few (eqb z 0xA8) 1 _ (omega arith) (either-few (eqb z 0xA9) 1 0 (omega arith) (omega arith))) (omega arith))
    (omega arith))))

-- only four bytes begin one
pub end_none : (x y z : ℕ) → (x ≡ 0x0A → ⊥) → (x ≡ 0x0D → ⊥) → (x ≡ 0xC2 → ⊥) → (x ≡ 0xE2 → ⊥) → end_of x y z ≡ 0
unfolding end_of
end_none x y z a b c d = rw (ne_eqb x 0x0A a, ne_eqb x 0x0D b, ne_eqb x 0xC2 c, ne_eqb x 0xE2 d)

pub end_later : (x y z : ℕ) → is_later x ≡ true → end_of x y z ≡ 0
end_later x y z e =
    let b = both (leb 0x80 x) (ltb x 0xC0) e in
    let l : 0x80 ≤ x = leb-true 0x80 x b.0 in
    let h : x < 0xC0 = ltb-true x 0xC0 b.1 in
    end_none x y z (omega arith) (omega arith) (omega arith) (omega arith)

-- and two of them one that is longer than a byte
pub end_short : (x y z : ℕ) → long_of x ≡ 0 → end_of x y z ≡ short_end x y
unfolding end_of
end_short x y z h =
    split (eqb x 0xC2) (λ c. absurd (omega (arith, (rw c at h))))
    (λ c. split (eqb x 0xE2) (λ e. absurd (omega (arith, (rw (c, e) at h))))
    (λ e. rw (c, e)))

pub short-few : (x y : ℕ) → short_end x y ≤ 1
short-few x y =
    either-few (eqb x 0x0A) 1 _ (omega arith)
    (either-few (eqb x 0x0D) _ 0 (either-few (eqb y 0x0A) 0 1 (omega arith) (omega arith)) (omega arith))

pub long-few : (x : ℕ) → long_of x ≤ 1
long-few x = either-few (eqb x 0xC2) 1 _ (omega arith) (either-few (eqb x 0xE2) 1 0 (omega arith) (omega arith))

pub end-nothing : end_first [] ≡ 0
unfolding end_of
end-nothing = refl

-- ---- in the first n bytes

pub ends-nothing : (n : ℕ) → ends_in n [] ≡ 0
ends-nothing zero = refl
ends-nothing (suc n) = omega (arith, end-nothing, ends-nothing n)

pub ends-few : (n : ℕ) (text : List ℕ) → ends_in n text ≤ n
ends-few zero text = omega arith
ends-few (suc n) text = omega (arith, end-few (get_or text 0 0) (get_or text 1 0) (get_or text 2 0), ends-few n (drop 1 text))

-- THE LAW OF PARTS
pub ends_add : (n m : ℕ) (text : List ℕ) → ends_in (n + m) text ≡ ends_in n text + ends_in m (drop n text)
ends_add zero m text = ap (λ (k : ℕ). ends_in k text) (zero-add m) ∙ sym (zero-add (ends_in m text))
ends_add (suc n) m text =
    let s : suc n + m ≡ suc (n + m) = omega arith in
    let e : 1 + n ≡ suc n = omega arith in
    let d : ends_in m (drop n (drop 1 text)) ≡ ends_in m (drop (suc n) text) = ap (ends_in m) (drop-drop n 1 text ∙ ap (λ (k : ℕ). drop k text) e) in
    ap (λ (k : ℕ). ends_in k text) s ∙ omega (arith, ends_add n m (drop 1 text), d)

pub ends-split : (n m : ℕ) (text : List ℕ) → m ≤ n → ends_in m text + ends_in (n - m) (drop m text) ≡ ends_in n text
ends-split n m text h =
    let e : m + (n - m) ≡ n = omega arith in
    sym (ends_add m (n - m) text) ∙ ap (λ (k : ℕ). ends_in k text) e

pub ends-one : (n : ℕ) (text : List ℕ) → ends_in (n + 1) text ≡ ends_in n text + end_first (drop n text)
ends-one n text = omega (arith, ends_add n 1 text)

-- there is nothing behind the end
ends-over : (n : ℕ) (text : List ℕ) → length text ≤ n → ends_in n text ≡ ends_in (length text) text
ends-over n text h =
    let m : ℕ = n - length text in
    let e : n ≡ length text + m = omega arith in
    let z : ends_in m (drop (length text) text) ≡ 0 = rw (drop-length text) (ends-nothing m) in
    ap (λ (k : ℕ). ends_in k text) e ∙ omega (arith, ends_add (length text) m text, z)

pub ends-min : (n : ℕ) (text : List ℕ) → ends_in (min n (length text)) text ≡ ends_in n text
ends-min n text = under n (length text)
    (λ h.
    let e : min n (length text) ≡ n = omega arith in
    ap (λ (k : ℕ). ends_in k text) e)
    (λ h.
    let e : min n (length text) ≡ length text = omega arith in
    ap (λ (k : ℕ). ends_in k text) e ∙ sym (ends-over n text h))

-- ---- where a line end begins

-- with a later byte there is none
pub ends-laters : (ys zs : List ℕ) → Laters ys → ends_in (length ys) (ys ++ zs) ≡ 0
ends-laters [] zs a = refl
ends-laters (y ∷ ys) zs a = omega (arith, end_later y (get_or (ys ++ zs) 0 0) (get_or (ys ++ zs) 1 0) a.0, ends-laters ys zs a.1)

-- ---- counted by each byte and the two behind it: a row but for the part that is left, with the parts one and two bytes behind it

pub record Passed (row left next third : List ℕ) (ends : ℕ) : Type 0 where
  pub next-is : next ≡ drop 1 left
  pub third-is : third ≡ drop 2 left
  pub ends-are : ends + ends_in (length third) left ≡ ends_in (length row - 2) row

pub passed-none : (row : List ℕ) → Passed row row (drop 1 row) (drop 2 row) 0
passed-none row = record {
  next-is = refl;
  third-is = refl;
  ends-are = ap (λ (k : ℕ). 0 + ends_in k row) (length-drop 2 row) ∙ zero-add (ends_in (length row - 2) row);
}

pub passed-few : (row left next third : List ℕ) (ends : ℕ) → Passed row left next third ends → ends ≤ length row - 2
passed-few row left next third ends p = omega (arith, p.ends-are, ends-few (length row - 2) row)

pub passed-all : (row left next third : List ℕ) (ends : ℕ) → Passed row left next third ends → length third ≡ 0
    → ends ≡ ends_in (length row - 2) row
passed-all row left next third ends p e =
    let z : ends_in (length third) left ≡ 0 = rw e refl in omega (arith, p.ends-are, z)

-- they end together
pub passed-end : (row left next third : List ℕ) (ends : ℕ) → Passed row left next third ends
    → (length left ≡ 0) ⊎ ((length next ≡ 0) ⊎ (length third ≡ 0)) → length third ≡ 0
passed-end row left next third ends p o =
    let m : length next ≡ length left - 1 = ap length p.next-is ∙ length-drop 1 left in
    let n : length third ≡ length left - 2 = ap length p.third-is ∙ length-drop 2 left in
    elim o [ inl e ↦ omega arith | inr f ↦ elim f [ inl e ↦ omega arith | inr e ↦ e ] ]

-- one more
pub record Steps (left next third : List ℕ) (x y z : ℕ) (left' next' third' : List ℕ) : Type 0 where
  pub first : left ≡ x ∷ left'
  pub second : next ≡ y ∷ next'
  pub last : third ≡ z ∷ third'

pub passed-next : (row left next third : List ℕ) (ends : ℕ) → Passed row left next third ends
    → (x y z : ℕ) (left' next' third' : List ℕ) → Steps left next third x y z left' next' third'
    → Passed row left' next' third' (ends + end_of x y z)
passed-next row left next third ends p x y z left' next' third' s =
    let e : left' ≡ y ∷ next' = sym (ap (drop 1) s.first) ∙ sym p.next-is ∙ s.second in
    let f : next' ≡ z ∷ third' = sym (ap (drop 1) e) ∙ sym (ap (drop 2) s.first) ∙ sym p.third-is ∙ s.last in
    let q : ends + ends_in (length (z ∷ third')) (x ∷ left') ≡ ends_in (length row - 2) row = rw (s.first, s.last) at p.ends-are in
    let k : end_first (x ∷ left') ≡ end_of x y z = rw (e, f) refl in
    record {
      next-is = rw e refl;
      third-is = rw (e, f) refl;
      ends-are = omega (arith, q, k);
    }

-- as long as none is longer than a byte
pub record Short (row left next third : List ℕ) (ends long : ℕ) : Type 0 where
  pub ends-at-most : ends + length third ≤ length row - 2
  pub long-at-most : long + length third ≤ length row - 2
  pub ends-are : long ≡ 0 → Passed row left next third ends

pub short_none : (row : List ℕ) → Short row row (drop 1 row) (drop 2 row) 0 0
short_none row =
    let l = length-drop 2 row in
    record { ends-at-most = omega (arith, l); long-at-most = omega (arith, l); ends-are = λ z. passed-none row }

pub short-next : (row left next third : List ℕ) (ends long : ℕ) → Short row left next third ends long
    → (x y z : ℕ) (left' next' third' : List ℕ) → Steps left next third x y z left' next' third'
    → Short row left' next' third' (ends + short_end x y) (long + long_of x)
short-next row left next third ends long s x y z left' next' third' t =
    let l : length third ≡ suc (length third') = ap length t.last in
    record {
      ends-at-most = omega (arith, s.ends-at-most, short-few x y, l);
      long-at-most = omega (arith, s.long-at-most, long-few x, l);
      ends-are = λ none.
          let e : end_of x y z ≡ short_end x y = end_short x y z (omega arith) in
          rw e at (passed-next row left next third ends (s.ends-are (omega arith)) x y z left' next' third' t);
    }
