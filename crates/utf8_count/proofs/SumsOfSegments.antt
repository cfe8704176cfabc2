-- THE LAW OF THE SUMS: where all segments of a byte text are whole, its sums are those of its segments.
use mathlib.Core.Path.{◌≡◌, refl, sym, ap, ◌∙◌}
use Prim.Native.Nat.{ℕ, ◌+◌, ◌≤◌, ◌<◌}
use mathlib.Core.Bool.{true, cond}
use mathlib.Core.List.{List, [], ◌∷◌}
use lib.ListN.{length, take, drop, length-drop, take-append-drop}
use lib.Seq.{length-take-le}
use lib.Dec.{leb, ltb}
use borrow.Author.Tests.{le-leb, lt-leb, lt-ltb, le-ltb, leb-true, ltb-true}
use native.Mathlib.Omega.{arith}
use Rattle.theory.specs.Reader.{first, rest, cut}
use Rattle.theory.specs.Table.{whole}
use Rattle.theory.specs.Sequence.{Sequence}
use Rattle.theory.specs.Tally.{total}
use Rattle.theory.proofs.Cases.{All, both}
use Rattle.theory.proofs.Divisions.{total_append, cut-nil, cut-cons, by-segments}
use Rattle.theory.proofs.SequencesAreWhole.{by_rows, whole-sequence}
use Rattle.terms.specs.Form.{point_of}
use Rattle.terms.proofs.ConvertsBack.{AllWhole}
use Rattle.utf8_scan.specs.Stands.{is_later}
use Rattle.utf8.specs.Bytes.{rows, lone_byte, bytes}
use Rattle.utf8.specs.Scalar.{number, utf8}
use Rattle.utf8.proofs.RowsOfBytes.{rows-sound, bytes_division}
use Rattle.utf8_count.specs.Counts.{start_of, four_of}

-- ---- the first byte of a whole segment, and the later ones

-- a code point is two units exactly if it is U+10000 or more
abbrev pub units_of : ℕ → ℕ
units_of c = cond (ltb c 0x10000) 1 2

-- what a first byte counts, where its sequence stands for c and has n later bytes
abbrev pub FirstByte : ℕ → ℕ → ℕ → Type 0
FirstByte x c n = (start_of x ≡ 1) × (units_of c ≡ 1 + four_of x) × (four_of x ≤ n)

first-low : (x c n : ℕ) → x < 0x80 → c < 0x10000 → FirstByte x c n
first-low x c n h k = rw (lt-leb 0x80 x h, lt-leb 0xF0 x (omega arith), lt-ltb c 0x10000 k) (refl, refl, omega arith)

first-mid : (x c n : ℕ) → 0xC0 ≤ x → x < 0xF0 → c < 0x10000 → FirstByte x c n
first-mid x c n l h k = rw (le-leb 0x80 x (omega arith), le-ltb x 0xC0 l, lt-leb 0xF0 x h, lt-ltb c 0x10000 k) (refl, refl, omega arith)

first_high : (x c n : ℕ) → 0xF0 ≤ x → 0x10000 ≤ c → 1 ≤ n → FirstByte x c n
first_high x c n l k m = rw (le-leb 0x80 x (omega arith), le-ltb x 0xC0 (omega arith), le-leb 0xF0 x l, le-ltb c 0x10000 k) (refl, refl, m)

is_later_lem : (y : ℕ) → (0x80 ≤ y) × (y ≤ 0xBF) → is_later y ≡ true
is_later_lem y b = rw (le-leb 0x80 y b.0, lt-ltb y 0xC0 (omega arith))

abbrev pub Laters : List ℕ → Type 0
Laters = All (λ y. is_later y ≡ true)

-- of a sequence
abbrev pub Formed : List ℕ → Type 0
Formed [] = Unit {0}
Formed (x ∷ xs) = FirstByte x (number (x ∷ xs)) (length xs) × Laters xs

mid-two : (x y : ℕ) → (0xC2 ≤ x) × (x ≤ 0xDF) → (0x80 ≤ y) × (y ≤ 0xBF) → Formed (x ∷ y ∷ [])
mid-two x y a b = (first-mid x (number (x ∷ y ∷ [])) 1 (omega arith) (omega arith) (omega arith), (is_later_lem y b, tt))

mid-three : (x y z : ℕ) → (0xE0 ≤ x) × (x ≤ 0xEF) → (0x80 ≤ y) × (y ≤ 0xBF) → (0x80 ≤ z) × (z ≤ 0xBF) → Formed (x ∷ y ∷ z ∷ [])
mid-three x y z a b d = (first-mid x (number (x ∷ y ∷ z ∷ [])) 2 (omega arith) (omega arith) (omega arith), (is_later_lem y b, (is_later_lem z d, tt)))

high_four : (x y z t : ℕ) → 0xF0 ≤ x → (0x80 ≤ y) × (y ≤ 0xBF) → (0x80 ≤ z) × (z ≤ 0xBF) → (0x80 ≤ t) × (t ≤ 0xBF)
    → 0x10000 ≤ number (x ∷ y ∷ z ∷ t ∷ []) → Formed (x ∷ y ∷ z ∷ t ∷ [])
high_four x y z t a b d e k = (first_high x (number (x ∷ y ∷ z ∷ t ∷ [])) 3 a k (omega arith), (is_later_lem y b, (is_later_lem z d, (is_later_lem t e, tt))))

pub formed : (ys : List ℕ) → Sequence rows ys → Formed ys
unfolding rows
formed = by_rows rows Formed
    (λ x a. (first-low x (number (x ∷ [])) 0 (omega arith) (omega arith), tt))
    (λ x a y b. mid-two x y a b)
    (λ x a y b z d. mid-three x y z (omega arith) (omega arith) d)
    (λ x a y b z d. mid-three x y z (omega arith) b d)
    (λ x a y b z d. mid-three x y z (omega arith) (omega arith) d)
    (λ x a y b z d. mid-three x y z (omega arith) b d)
    (λ x a y b z d t e. high_four x y z t (omega arith) (omega arith) d e (omega arith))
    (λ x a y b z d t e. high_four x y z t (omega arith) b d e (omega arith))
    (λ x a y b z d t e. high_four x y z t (omega arith) (omega arith) d e (omega arith))

-- a later byte counts nothing
later-none : (y : ℕ) → is_later y ≡ true → (start_of y ≡ 0) × (four_of y ≡ 0)
later-none y e =
    let b = both (leb 0x80 y) (ltb y 0xC0) e in
    let l : 0x80 ≤ y = leb-true 0x80 y b.0 in
    let h : y < 0xC0 = ltb-true y 0xC0 b.1 in
    rw (e, lt-leb 0xF0 y (omega arith)) (refl, refl)

pub laters-none : (ys : List ℕ) → Laters ys → (total start_of ys ≡ 0) × (total four_of ys ≡ 0)
laters-none [] a = (refl, refl)
laters-none (y ∷ ys) a =
    let n = later-none y a.0 in
    let m = laters-none ys a.1 in
    (omega (arith, n.0, m.0), omega (arith, n.1, m.1))

-- ---- one whole segment, whatever follows it

module _ (x : ℕ) (xs : List ℕ) (w : (bytes x xs).tag ≡ whole) where
  sequence : Sequence rows (x ∷ take (bytes x xs).more xs)
  unfolding bytes
  sequence = whole-sequence rows lone_byte rows-sound x xs w

  pub formed-first : Formed (x ∷ take (bytes x xs).more xs)
  formed-first = formed (x ∷ take (bytes x xs).more xs) sequence

-- ---- THE COUNTS OF A TEXT OF WHOLE SEGMENTS

pub record BySegments (text : List ℕ) : Type 0 where
  pub starts-are : total start_of text ≡ total (λ s. 1) (cut bytes text)
  pub units-are : total start_of text + total four_of text ≡ total (λ s. units_of (point_of utf8 s)) (cut bytes text)
  pub few : total start_of text + total four_of text ≤ length text

total-rest : (f : ℕ → ℕ) (n x : ℕ) (xs : List ℕ) → total f (x ∷ xs) ≡ f x + (total f (take n xs) + total f (drop n xs))
total-rest f n x xs = ap (λ (ys : List ℕ). f x + total f ys) (sym (take-append-drop n xs)) ∙ ap (λ (k : ℕ). f x + k) (total_append f (take n xs) (drop n xs))

pub by_wholes : (text : List ℕ) → AllWhole (cut bytes text) → BySegments text
by_wholes = by-segments bytes (λ (text : List ℕ). AllWhole (cut bytes text) → BySegments text)
    (λ w. record { starts-are = rw cut-nil; units-are = rw cut-nil; few = omega arith })
    (λ x xs ih w.
    let v : AllWhole (first bytes x xs ∷ cut bytes (rest bytes x xs)) = rw (cut-cons bytes x xs) at w in
    let r = ih v.1 in
    let n : ℕ = (bytes x xs).more in
    let f = formed-first x xs v.0 in
    let z = laters-none (take n xs) f.1 in
    let l : length (take n xs) ≡ n = length-take-le n xs (bytes_division.fits x xs) in
    let m : n ≤ length xs = bytes_division.fits x xs in
    record {
      starts-are = rw (cut-cons bytes x xs) (omega (arith, total-rest start_of n x xs, f.0, z, r.starts-are));
      units-are = rw (cut-cons bytes x xs, v.0) (omega (arith, total-rest start_of n x xs, total-rest four_of n x xs, f.0, z, r.units-are));
      few = omega (arith, total-rest start_of n x xs, total-rest four_of n x xs, f.0, z, r.few, length-drop n xs, l, m);
    })
