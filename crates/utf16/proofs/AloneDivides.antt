-- Units that stand alone: how they are tested unit by unit, and that they divide into segments of one whole unit each.
use mathlib.Core.Path.{◌≡◌, refl, ap}
use mathlib.Core.Logic.{◌⊎◌, inl, inr}
use Prim.Native.Nat.{ℕ, ◌≤◌, ◌<◌}
use mathlib.Core.Bool.{Bool, true, false, ◌&&◌}
use mathlib.Core.List.{List, [], ◌∷◌, ◌++◌, map}
use lib.Dec.{ltb}
use borrow.Author.Tests.{ltb-true}
use native.Mathlib.Omega.{arith}
use Rattle.theory.specs.Reader.{Segment, cut}
use Rattle.theory.specs.Table.{Kind, whole}
use Rattle.theory.specs.Tally.{written}
use Rattle.theory.proofs.Cases.{split, both}
use Rattle.theory.proofs.Divisions.{cut-cons, written-append}
use Rattle.terms.specs.Form.{Form, point_of, converted}
use Rattle.utf16.specs.Units.{units}
use Rattle.utf16.specs.Scalar.{utf16}
use Rattle.utf16.specs.Alone.{alone, all_alone}
use Rattle.utf16.proofs.RowsOfUnits.{unit-whole}

-- ---- the test, unit by unit

and-true : (a : Bool) → a && true ≡ a
and-true true = refl
and-true false = refl

pub alone_append : (xs ys : List ℕ) → all_alone (xs ++ ys) ≡ all_alone xs && all_alone ys
alone_append [] ys = refl
alone_append (x ∷ xs) ys = rw (alone_append xs ys) (grouped (alone x) (all_alone xs) (all_alone ys))
  where
    grouped : (a b c : Bool) → a && (b && c) ≡ (a && b) && c
    grouped true b c = refl
    grouped false b c = refl

pub alone-next : (xs : List ℕ) (x : ℕ) → all_alone (xs ++ x ∷ []) ≡ all_alone xs && alone x
alone-next xs x = rw (alone_append xs (x ∷ []), and-true (alone x))

-- ---- units that stand alone, as segments

-- a unit that stands by itself, as a segment
abbrev pub single : ℕ → Segment Kind
single x = record { head = x; tail = []; tag = whole }

of_alone : (x : ℕ) → alone x ≡ true → (x < 0xD800) ⊎ ((0xDFFF < x) × (x ≤ 0xFFFF))
of_alone x e = split (ltb x 0xD800)
    (λ f. inl (ltb-true _ _ f))
    (λ f.
    let b = both (ltb 0xDFFF x) (ltb x 0x10000) (rw f at e) in
    let l : x < 0x10000 = ltb-true _ _ b.1 in
    inr (ltb-true _ _ b.0, omega arith))

-- UNITS THAT STAND ALONE AT THE START OF A TEXT DIVIDE INTO THEMSELVES
pub cut-alone : (xs ys : List ℕ) → all_alone xs ≡ true → cut units (xs ++ ys) ≡ map single xs ++ cut units ys
cut-alone [] ys e = refl
cut-alone (x ∷ xs) ys e =
    let b = both (alone x) (all_alone xs) e in
    rw (cut-cons, unit-whole x (xs ++ ys) (of_alone x b.0)) (ap (λ (r : List (Segment Kind)). single x ∷ r) (cut-alone xs ys b.1))

written-alone : (G : Form) (xs : List ℕ) → written (λ s. G.write (point_of utf16 s)) (map single xs) ≡ written G.write xs
written-alone G [] = refl
written-alone G (x ∷ xs) = ap (λ (r : List ℕ). G.write x ++ r) (written-alone G xs)

-- and each unit is its own code point
pub converted-alone : (G : Form) (xs ys : List ℕ) → all_alone xs ≡ true
    → converted utf16 G (xs ++ ys) ≡ written G.write xs ++ converted utf16 G ys
converted-alone G xs ys e =
    rw (cut-alone xs ys e, written-append (λ (s : Segment Kind). G.write (point_of utf16 s)) (map single xs) (cut units ys), written-alone G xs)
