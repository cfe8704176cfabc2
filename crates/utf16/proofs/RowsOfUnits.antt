-- The rows of the unit table: what is read at a unit, in the paper's words, and the laws of a division that follow for texts of units.
use mathlib.Core.Path.{◌≡◌, refl, ◌∙◌}
use mathlib.Core.Logic.{◌⊎◌, inl, inr}
use Prim.Native.Nat.{ℕ, zero, ◌≤◌, ◌<◌}
use mathlib.Core.Bool.{true, false}
use mathlib.Core.List.{List, [], ◌∷◌}
use lib.ListN.{take, drop}
use native.Mathlib.Omega.{arith}
use Rattle.theory.specs.Table.{◌to◌, within, stray, stopped, ended, whole, damage, is_damage, cause_of, want, lone}
use Rattle.theory.specs.Reader.{parts}
use Rattle.theory.specs.Sequence.{Reads}
use Rattle.theory.proofs.Cases.{split, under, All}
use Rattle.theory.proofs.Divisions.{Division}
use Rattle.theory.proofs.TableDivides.{in_range, begun-row, begun-none, table-division, table-damage, table-whole, table-ended, settled-unended}
use Rattle.theory.proofs.OneDivision.{Sound, is_sound}
use Rattle.theory.proofs.SequencesAreWhole.{of_row, read-sequence}
use Rattle.theory.proofs.TableReads.{table-reads}
use Rattle.utf16.specs.Units.{rows, lone_unit, units}

-- ---- texts of units are a division, and damage has 1 unit

pub units_division : Division units
unfolding units
units_division = table-division rows lone_unit

pub damage_one : (x : ℕ) (xs : List ℕ) → is_damage (units x xs).tag ≡ true → (units x xs).more ≡ 0
unfolding units rows
damage_one x xs e = omega (arith, table-damage rows lone_unit (omega arith) x xs e)

pub whole-sure : (x : ℕ) (xs : List ℕ) → is_damage (units x xs).tag ≡ false → (units x xs).sure ≡ true
unfolding units
whole-sure = table-whole rows lone_unit

-- CAUSE 4 COMES ONLY FROM FINISH: what is held back is damage that the end of the text stops, and what is settled is not
pub held-ended : (x : ℕ) (xs : List ℕ) → (units x xs).sure ≡ false → (units x xs).tag ≡ damage ended
unfolding units
held-ended = table-ended rows lone_unit

pub settled-by-others : (text : List ℕ) → All (λ s. cause_of s.tag < ended) (parts units text).done
unfolding units
settled-by-others = settled-unended rows lone_unit (λ x. omega arith)

-- ---- THE PAPER'S WORDS hold of this reader

pub rows-sound : Sound zero rows
unfolding rows
rows-sound = is_sound zero rows refl

pub units-read : Reads rows lone_unit units
unfolding units
units-read = table-reads rows lone_unit rows-sound

-- ---- and unit by unit

abbrev pub FirstHalf : ℕ → Type 0
FirstHalf x = (0xD800 ≤ x) × (x ≤ 0xDBFF)

abbrev pub SecondHalf : ℕ → Type 0
SecondHalf x = (0xDC00 ≤ x) × (x ≤ 0xDFFF)

-- x ∷ xs begins with both
abbrev pub Pair : ℕ → List ℕ → Type 0
Pair x [] = ⊥
Pair x (y ∷ ys) = FirstHalf x × SecondHalf y

-- a first half wants a second one
first-wants : (x : ℕ) (xs : List ℕ) → FirstHalf x → units x xs ≡ want (0xDC00 to 0xDFFF ∷ []) xs
unfolding units rows
first-wants x xs h =
    rw (begun-row (take 1 rows) (record { lead = 0xD800 to 0xDBFF; later = 0xDC00 to 0xDFFF ∷ [] }) (drop 2 rows) x (omega arith) h.0 h.1)

-- the text ends behind it
pub first_ended : (x : ℕ) → FirstHalf x → units x [] ≡ record { more = 0; tag = damage ended; sure = false }
first_ended x h = first-wants x [] h

-- another unit stops it
pub first-stopped : (x y : ℕ) (ys : List ℕ) → FirstHalf x → (SecondHalf y → ⊥) → units x (y ∷ ys) ≡ lone stopped
first-stopped x y ys h n =
    first-wants x (y ∷ ys) h
    ∙ split (within (0xDC00 to 0xDFFF) y) (λ e. absurd (n (in_range (0xDC00 to 0xDFFF) y e))) (λ e. rw e)

pub second-alone : (x : ℕ) (xs : List ℕ) → SecondHalf x → units x xs ≡ lone stray
unfolding units rows
second-alone x xs h = rw (begun-none (take 2 rows) (drop 2 rows) x (omega arith) (omega arith))

-- 0xD800..0xDBFF followed by 0xDC00..0xDFFF is one whole pair
pub pair-whole : (x : ℕ) (xs : List ℕ) → Pair x xs → units x xs ≡ record { more = 1; tag = whole; sure = true }
unfolding units rows
pair-whole x [] p = absurd p
pair-whole x (y ∷ ys) p = read-sequence rows lone_unit rows-sound x (y ∷ []) ys (of_row rows 1 (x ∷ y ∷ []) (omega arith))

-- any other unit in 0xD800..0xDFFF is damage of length 1
pub half_damage : (x : ℕ) (xs : List ℕ) → 0xD800 ≤ x → x ≤ 0xDFFF → (Pair x xs → ⊥) → (is_damage (units x xs).tag ≡ true) × ((units x xs).more ≡ 0)
half_damage x xs l h n = under x 0xDC00 (λ k. first xs (l, omega arith) n) (λ k. rw (second-alone x xs (k, h)) (refl, refl))
  where
    first : (xs : List ℕ) → FirstHalf x → (Pair x xs → ⊥) → (is_damage (units x xs).tag ≡ true) × ((units x xs).more ≡ 0)
    first [] i n = rw (first_ended x i) (refl, refl)
    first (y ∷ ys) i n = rw (first-stopped x y ys i (λ j. n (i, j))) (refl, refl)

-- every other unit is whole
pub unit-whole : (x : ℕ) (xs : List ℕ) → (x < 0xD800) ⊎ ((0xDFFF < x) × (x ≤ 0xFFFF)) → units x xs ≡ record { more = 0; tag = whole; sure = true }
unfolding units rows
unit-whole x xs (inl h) = read-sequence rows lone_unit rows-sound x [] xs (of_row rows 0 (x ∷ []) (omega arith))
unit-whole x xs (inr h) = read-sequence rows lone_unit rows-sound x [] xs (of_row rows 2 (x ∷ []) (omega arith))
