-- The room that is enough: no segment takes more places in a form than its elements are counted for, and so no text does.
use mathlib.Core.Path.{◌≡◌, refl, ap}
use Prim.Native.Nat.{ℕ, zero, suc, ◌+◌, ◌*◌, ◌≤◌, ◌<◌}
use native.Mathlib.Nat.{mul-add, mul-suc, mul-le-mul}
use mathlib.Core.List.{List, [], ◌∷◌}
use lib.ListN.{length, take, drop, replicate, length-append, take-append-drop}
use lib.Dec.{ltb}
use borrow.Author.Tests.{le-ltb}
use native.Mathlib.Omega.{arith}
use Rattle.theory.specs.Reader.{body, first, rest}
use Rattle.theory.specs.Table.{Kind, whole, damage}
use Rattle.theory.specs.Sequence.{Sequence}
use Rattle.theory.specs.Tally.{size}
use Rattle.theory.proofs.Cases.{split, under}
use Rattle.theory.proofs.Divisions.{by-segments, cut-nil, cut-cons}
use Rattle.theory.proofs.SequencesAreWhole.{by_rows, whole-sequence}
use Rattle.terms.specs.Form.{Form, replacement, repaired, point_of, converted}
use Rattle.terms.specs.Limits.{limit}
use Rattle.terms.proofs.ConvertsBack.{repaired-converted}
use Rattle.terms.proofs.FaithfulForms.{Faithful}
use Rattle.utf8.specs.Bytes as bytes-rows
use Rattle.utf8.specs.Scalar.{sequence}
use Rattle.utf8.specs.Scalar as utf8
use Rattle.utf8.proofs.FaithfulForm.{is_one, is-two, is-three, utf8-faithful}
use Rattle.utf16.specs.Units.{rows, lone_unit, units}
use Rattle.utf16.specs.Scalar.{number, pair}
use Rattle.utf16.proofs.RowsOfUnits.{rows-sound}
use Rattle.utf16.proofs.FaithfulForm.{utf16-faithful}
use Rattle.utf16.proofs.FaithfulForm as utf16
use Rattle.code_points.specs.Points.{points}
use Rattle.code_points.proofs.CodePointsDivide.{points-faithful}
use Rattle.convert_point.specs.Target.{form_of}
use Rattle.convert_point.specs.Room.{places_each, most_of}
use Rattle.convert_point.specs.declared.Target.{Target}
use Rattle.convert_point.specs.declared.Target.TheVariants.{Bytes, Units, Points}
use Rattle.convert_point.proofs.FourAtMost.{at-most-four}

-- ---- of any two forms: what is enough for each segment is enough for the text

module _ (F G : Form) (each : ℕ)
    (few : (x : ℕ) (xs : List ℕ) → length (G.write (point_of F (first F.look x xs))) ≤ each * size (first F.look x xs)) where
  pub converted-few : (text : List ℕ) → length (converted F G text) ≤ each * length text
  converted-few = by-segments F.look (λ (text : List ℕ). length (converted F G text) ≤ each * length text)
      (rw cut-nil (omega arith))
      (λ x xs ih.
      let m : ℕ = (F.look x xs).more in
      let s : ℕ = size (first F.look x xs) in
      let r : ℕ = length (rest F.look x xs) in
      let l : length (x ∷ xs) ≡ s + r = omega (arith, ap length (take-append-drop m xs), length-append (take m xs) (drop m xs)) in
      rw (cut-cons, length-append, l, mul-add) (omega (arith, ih, few x xs)))

-- ---- of the three forms

pub faithful : (t : Target) → Faithful (form_of t)
faithful Bytes = utf8-faithful
faithful Units = utf16-faithful
faithful Points = points-faithful

pub at_most_two : (c : ℕ) → length (pair c) ≤ 2
at_most_two c = split (ltb c 0x10000) (λ e. rw e (omega arith)) (λ e. rw e (omega arith))

-- a sequence of bytes takes no more units than it has bytes
units_of_lem : (x : ℕ) (xs : List ℕ) → length (pair (utf8.number (x ∷ xs))) ≤ length (x ∷ xs)
units_of_lem a [] = rw (utf16.is_one (utf8.number (a ∷ [])) (omega arith)) (omega arith)
units_of_lem a (b ∷ []) = rw (utf16.is_one (utf8.number (a ∷ b ∷ [])) (omega arith)) (omega arith)
units_of_lem a (b ∷ c ∷ []) = rw (utf16.is_one (utf8.number (a ∷ b ∷ c ∷ [])) (omega arith)) (omega arith)
units_of_lem a (b ∷ c ∷ d ∷ xs) = omega (arith, at_most_two (utf8.number (a ∷ b ∷ c ∷ d ∷ [])))

-- a unit takes at most three bytes, and a pair four
pub three-at-most : (x : ℕ) → x < 0x10000 → length (sequence x) ≤ 3
three-at-most x h = under x 0x80
    (λ l. omega (arith, ap length (is_one x l)))
    (λ m. under x 0x800 (λ l. omega (arith, ap length (is-two x m l))) (λ n. omega (arith, ap length (is-three x n h))))

bytes_of : (xs : List ℕ) → Sequence rows xs → length (sequence (number xs)) ≤ 3 * length xs
unfolding rows
bytes_of = by_rows rows (λ xs. length (sequence (number xs)) ≤ 3 * length xs)
    (λ x a. three-at-most x (omega arith))
    (λ x a y b. omega (arith, at-most-four Bytes (number (x ∷ y ∷ []))))
    (λ x a. three-at-most x (omega arith))

-- U+FFFD takes no more than one element of a damage is counted for
damage_few : (from to : Target) (n : ℕ) → length ((form_of to).write replacement) ≤ places_each from to * suc n
damage_few Bytes Bytes n = omega arith
damage_few Bytes Units n = omega arith
damage_few Bytes Points n = omega arith
damage_few Units Bytes n = omega arith
damage_few Units Units n = omega arith
damage_few Units Points n = omega arith
damage_few Points Bytes n = omega arith
damage_few Points Units n = omega arith
damage_few Points Points n = omega arith

module _ (x : ℕ) (xs : List ℕ) where
  -- a whole segment in its own form is itself
  same-few : (t : Target) → ((form_of t).look x xs).tag ≡ whole
      → length ((form_of t).write ((form_of t).value (body (first (form_of t).look x xs)))) ≡ size (first (form_of t).look x xs)
  same-few t e = ap length ((faithful t).reads.again x xs e)

  whole-few : (from to : Target) → ((form_of from).look x xs).tag ≡ whole
      → length ((form_of to).write ((form_of from).value (body (first (form_of from).look x xs)))) ≤ places_each from to * size (first (form_of from).look x xs)
  unfolding units
  whole-few Bytes Bytes e = omega (arith, same-few Bytes e)
  whole-few Bytes Units e = omega (arith, units_of_lem x (take ((form_of Bytes).look x xs).more xs))
  whole-few Bytes Points e = omega arith
  whole-few Units Bytes e = bytes_of (body (first units x xs)) (whole-sequence rows lone_unit rows-sound x xs e)
  whole-few Units Units e = omega (arith, same-few Units e)
  whole-few Units Points e = omega arith
  whole-few Points Bytes e = omega (arith, at-most-four Bytes ((form_of Points).value (body (first (form_of Points).look x xs))))
  whole-few Points Units e = omega (arith, at_most_two ((form_of Points).value (body (first (form_of Points).look x xs))))
  whole-few Points Points e = omega arith

  pub segment-few : (from to : Target)
      → length ((form_of to).write (point_of (form_of from) (first (form_of from).look x xs))) ≤ places_each from to * size (first (form_of from).look x xs)
  segment-few from to = go ((form_of from).look x xs).tag refl
    where
      go : (k : Kind) → ((form_of from).look x xs).tag ≡ k
          → length ((form_of to).write (point_of (form_of from) (first (form_of from).look x xs))) ≤ places_each from to * size (first (form_of from).look x xs)
      go (damage c) e = rw e (damage_few from to (length (take ((form_of from).look x xs).more xs)))
      go whole e = rw e (whole-few from to e)

pub text_few : (from to : Target) (text : List ℕ) → length (converted (form_of from) (form_of to) text) ≤ places_each from to * length text
text_few from to = converted-few (form_of from) (form_of to) (places_each from to) (λ x xs. segment-few x xs from to)

-- THE ROOM IS ENOUGH, from any form to any form
pub enough : (from to : Target) (text : List ℕ) → length text ≤ limit → length (converted (form_of from) (form_of to) text) ≤ most_of from to (length text)
enough from to text h = rw (le-ltb limit (length text) h) (text_few from to text)

-- and for repair
pub enough-repaired : (t : Target) (text : List ℕ) → length text ≤ limit → length (repaired (form_of t) text) ≤ most_of t t (length text)
enough-repaired t text h = rw (repaired-converted (faithful t).reads text) (enough t t text h)

-- ---- less would not be: between any two forms some element takes that much wherever it stands

abbrev pub widest : Target → ℕ
widest Bytes = 0x80
widest Units = replacement
widest Points = 0x10000

alone : (from to : Target) (xs : List ℕ)
    → length (converted (form_of from) (form_of to) (widest from ∷ xs)) ≡ places_each from to + length (converted (form_of from) (form_of to) xs)
unfolding bytes-rows.rows bytes-rows.bytes rows units points
alone Bytes Bytes xs = rw cut-cons (omega arith)
alone Bytes Units xs = rw cut-cons (omega arith)
alone Bytes Points xs = rw cut-cons (omega arith)
alone Units Bytes xs = rw cut-cons (omega arith)
alone Units Units xs = rw cut-cons (omega arith)
alone Units Points xs = rw cut-cons (omega arith)
alone Points Bytes xs = rw cut-cons (omega arith)
alone Points Units xs = rw cut-cons (omega arith)
alone Points Points xs = rw cut-cons (omega arith)

all-alone : (from to : Target) (n : ℕ) → length (converted (form_of from) (form_of to) (replicate n (widest from))) ≡ places_each from to * n
all-alone from to zero = rw cut-nil (omega arith)
all-alone from to (suc n) = rw (alone from to (replicate n (widest from)), all-alone from to n, mul-suc) (omega arith)

-- THE ROOM IS NEEDED by some text of each length
pub needed : (from to : Target) (n : ℕ) → n ≤ limit → length (converted (form_of from) (form_of to) (replicate n (widest from))) ≡ most_of from to n
needed from to n h = rw (le-ltb limit n h) (all-alone from to n)

-- ---- what the call counts

-- one place for each element as a code point
pub points-one : (from : Target) → places_each from Points ≡ 1
points-one Bytes = refl
points-one Units = refl
points-one Points = refl

each_few : (from to : Target) → places_each from to ≤ 4
each_few Bytes Bytes = omega arith
each_few Bytes Units = omega arith
each_few Bytes Points = omega arith
each_few Units Bytes = omega arith
each_few Units Units = omega arith
each_few Units Points = omega arith
each_few Points Bytes = omega arith
each_few Points Units = omega arith
each_few Points Points = omega arith

pub most-small : (from to : Target) (n : ℕ) → n ≤ limit → places_each from to * n ≤ 4 * limit
most-small from to n h = mul-le-mul (each_few from to) h
