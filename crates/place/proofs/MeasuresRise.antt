-- The four measures: which of them rise, the units of a segment by its size, and the order of a place's counts.
use Rattle.std.proofs.Common.{◌≡◌, ℕ, ◌<◌, ◌≤◌, cond, eqb, ltb, ◌⊎◌, List, [], ◌∷◌, ◌++◌, length, drop, refl, inl, inr, suc-add, zero-add, arith, length-take-le, drop-drop, le-ltb, lt-ltb, eq-eqb, ne_eqb, eqb-true}
use mathlib.Core.List.{foldl}
use Rattle.theory.specs.Reader.{Reader, Segment, body, first, rest, cut}
use Rattle.theory.specs.Table.{Kind, whole, damage}
use Rattle.theory.specs.Tally.{total, size}
use Rattle.theory.specs.Sequence.{Sequence}
use Rattle.theory.specs.Place.{Ruler}
use Rattle.theory.specs.Lines.{bare}
use Rattle.theory.proofs.Cases.{split}
use Rattle.theory.proofs.Divisions.{Division, first-size, cut-nil, cut-cons}
use Rattle.theory.proofs.SequencesAreWhole.{by_rows, whole-sequence}
use Rattle.theory.proofs.PlacesFound.{NeverFalls, Rises, Measured, bytes-foldl, PlaceOf}
use Rattle.terms.specs.Limits.{most_damaged}
use Rattle.terms.specs.Form.{point_of}
use Rattle.utf8.specs.Bytes.{rows, lone_byte, bytes}
use Rattle.utf8.specs.Scalar.{number, utf8}
use Rattle.utf8.proofs.RowsOfBytes.{damage_short, rows-sound}
use Rattle.place.proofs.ReaderDivides.{reader_division}
use Rattle.place.specs.Measures.{Tag, reader, units_of, lines_of, ruler}
use Rattle.place.specs.Walk.{units_by_size}
use Rattle.place.specs.declared.Place.{Place}

-- ---- what holds at the start of a text, and is kept by each segment as it is taken from the rest, holds at every place of the text

module _ {K P : Type 0} {look : Reader K} (D : Division look) {R : Ruler K P} (M : Measured R) (Q : P → List ℕ → Type 0)
    (keep : (p : P) (x : ℕ) (xs : List ℕ) → Q p (x ∷ xs) → Q (R.step p (first look x xs)) (rest look x xs)) where
  along-keeps : (hs bs : List (Segment K)) (text : List ℕ) (p : P) → cut look text ≡ hs ++ bs → Q p text
      → Q (foldl R.step p hs) (drop (total size hs) text)
  along-keeps [] bs text p e h = h
  along-keeps (s ∷ hs) bs [] p e h = let z : ◌≡◌ {A = ℕ} 0 1 = cc (cut-nil look) in absurd (omega arith)
  along-keeps (s ∷ hs) bs (x ∷ xs) p e h =
      let i : s ≡ first look x xs = cc (cut-cons look x xs) in
      rw (i, length-take-le (look x xs).more xs (D.fits x xs), suc-add, ← drop-drop (total size hs) (look x xs).more xs)
      (along-keeps hs bs (rest look x xs) (R.step p (first look x xs)) (cc (cut-cons look x xs)) (keep p x xs h))

  pub places-keep : (text : List ℕ) {q : P} → PlaceOf look R text q → Q R.zeroth text → Q q (drop (R.bytes q) text)
  places-keep text b h =
      rw (b.place, bytes-foldl M, M.none, zero-add) (along-keeps b.front b.behind text R.zeroth b.joined h)

-- ---- bytes, units and code points rise with every segment; lines never fall

pub measured : Measured ruler
measured = record { none = refl; sized = λ p s. refl }

-- a segment is one unit or two, and ends one line or none
pub one_or_two : (s : Segment Tag) → (1 ≤ units_of s) × (units_of s ≤ 2)
one_or_two s = split (ltb (point_of utf8 (bare s)) 0x10000) (λ e. rw e (omega arith)) (λ e. rw e (omega arith))

pub one_or_none : (s : Segment Tag) → lines_of s ≤ 1
one_or_none s = split s.tag.ends (λ e. rw e (omega arith)) (λ e. rw e (omega arith))

-- a measure that is 0 at the start and rises with every segment
pub record Rising (m : Place → ℕ) : Type 0 where
  pub none : m ruler.zeroth ≡ 0
  pub rises : Rises ruler.step m

pub bytes_rise : Rising (λ p. p.bytes)
bytes_rise = record { none = refl; rises = λ p s. omega arith }

pub units_rise : Rising (λ p. p.units)
units_rise = record { none = refl; rises = λ p s. omega (arith, one_or_two s) }

pub points_rise : Rising (λ p. p.points)
points_rise = record { none = refl; rises = λ p s. omega arith }

pub lines_never_fall : NeverFalls ruler.step (λ p. p.lines)
lines_never_fall p s = omega arith

-- ---- the units of a segment of a byte text, by its size

-- a sequence stands for U+10000 or more exactly if it has four bytes
abbrev ByLength : List ℕ → Type 0
ByLength ys = ((number ys < 0x10000) × (length ys < 4)) ⊎ ((0x10000 ≤ number ys) × (length ys ≡ 4))

by_length : (ys : List ℕ) → Sequence rows ys → ByLength ys
unfolding rows
by_length = by_rows rows ByLength
    (λ x a. inl (omega arith))
    (λ x a y b. inl (omega arith))
    (λ x a y b z d. inl (omega arith))
    (λ x a y b z d. inl (omega arith))
    (λ x a y b z d. inl (omega arith))
    (λ x a y b z d. inl (omega arith))
    (λ x a y b z d t e. inr (omega arith))
    (λ x a y b z d t e. inr (omega arith))
    (λ x a y b z d t e. inr (omega arith))

whole-by-length : (x : ℕ) (xs : List ℕ) → (bytes x xs).tag ≡ whole → ByLength (body (first bytes x xs))
unfolding bytes
whole-by-length x xs e = by_length (body (first bytes x xs)) (whole-sequence rows lone_byte rows-sound x xs e)

-- TWO UNITS EXACTLY IF FOUR BYTES: a whole segment by its number, and damage is shorter
pub units-by-size : (x : ℕ) (xs : List ℕ) → units_of (first reader x xs) ≡ units_by_size (size (first reader x xs))
units-by-size x xs = of-tag (bytes x xs).tag refl
  where
    s : Segment Tag
    s = first reader x xs

    by_number : (c n : ℕ) → ((c < 0x10000) × (n < 4)) ⊎ ((0x10000 ≤ c) × (n ≡ 4)) → cond (ltb c 0x10000) 1 2 ≡ units_by_size n
    by_number c n (inl h) = rw (lt-ltb c 0x10000 h.0, ne_eqb n 4 (omega arith))
    by_number c n (inr h) = rw (le-ltb c 0x10000 h.0, eq-eqb n 4 h.1)

    of-tag : (t : Kind) → (bytes x xs).tag ≡ t → units_of s ≡ units_by_size (size s)
    of-tag whole e = rw e (by_number (number (body s)) (size s) (whole-by-length x xs e))
    of-tag (damage c) e =
        let short : size s ≤ most_damaged = omega (arith, damage_short x xs (rw e), first-size reader_division x xs) in
        rw (e, ne_eqb (size s) 4 (omega arith))

pub units-within : (x : ℕ) (xs : List ℕ) → units_of (first reader x xs) ≤ size (first reader x xs)
units-within x xs =
    let n : ℕ = size (first reader x xs) in
    rw (units-by-size x xs) (split (eqb n 4)
    (λ e. rw e (omega (arith, eqb-true n 4 e)))
    (λ e. rw e (omega arith)))

-- ---- THE ORDER OF THE COUNTS at every place of a text

pub record Ordered (p : Place) : Type 0 where
  pub lines : p.lines ≤ p.points
  pub points : p.points ≤ p.units
  pub units : p.units ≤ p.bytes

ordered-start : Ordered ruler.zeroth
ordered-start = record { lines = omega arith; points = omega arith; units = omega arith }

ordered-next : (p : Place) (x : ℕ) (xs : List ℕ) → Ordered p → Ordered (ruler.step p (first reader x xs))
ordered-next p x xs o =
    let s = first reader x xs in
    record {
      lines = omega (arith, one_or_none s);
      points = omega (arith, one_or_two s);
      units = omega (arith, units-within x xs);
    }

pub ordered : (text : List ℕ) {q : Place} → PlaceOf reader ruler text q → Ordered q
ordered text b = places-keep reader_division measured (λ p rest. Ordered p) ordered-next text b ordered-start
