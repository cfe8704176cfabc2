-- What the reader of units tells, from the tests that its code makes: a law for each of its arms; and what a whole segment is.
use mathlib.Core.Path.{◌≡◌, refl, sym, ap, ◌∙◌}
use mathlib.Core.Logic.{◌⊎◌}
use Prim.Native.Nat.{ℕ, ◌≤◌, ◌<◌}
use mathlib.Core.Bool.{true, false}
use mathlib.Core.List.{List}
use lib.ListN.{length, get_or, take, drop, drop_of_length-le}
use lib.Seq.{length-take-le, drop-cons, get_or-take}
use native.Mathlib.Omega.{arith}
use Rattle.theory.specs.Reader.{Look}
use Rattle.theory.specs.Table.{stray, stopped, ended, Kind, whole, damage, lone}
use Rattle.theory.specs.Sequence.{Sequence}
use Rattle.theory.proofs.SequencesAreWhole.{by_rows, whole-sequence}
use Rattle.terms.specs.Told.{told_first, look_says, first_says}
use Rattle.terms.specs.declared.First.TheVariants.{Whole, Damage, Begun}
use Rattle.terms.proofs.WalkBySegments.{says-look}
use Rattle.terms.proofs.PointTold.{Pointed}
use Rattle.utf16.specs.Units.{rows, lone_unit, units}
use Rattle.utf16.specs.Scalar.{utf16}
use Rattle.utf16.proofs.RowsOfUnits.{rows-sound, FirstHalf, SecondHalf, unit-whole, second-alone, first_ended, first-stopped, pair-whole}

module _ (text : List ℕ) (some-there : 0 < length text) where
  says : (l : Look Kind) → units (get_or text 0 0) (drop 1 text) ≡ l → look_says l ≡ first_says units text
  says l e = ap look_says (sym e) ∙ sym (says-look units text some-there)

  pub reads_whole : (get_or text 0 0 < 0xD800) ⊎ ((0xDFFF < get_or text 0 0) × (get_or text 0 0 ≤ 0xFFFF)) → told_first (Whole 1) ≡ first_says units text
  reads_whole h = says (record { more = 0; tag = whole; sure = true }) (unit-whole (get_or text 0 0) (drop 1 text) h)

  pub reads_second : SecondHalf (get_or text 0 0) → told_first (Damage 1 (record { 0 = stray })) ≡ first_says units text
  reads_second h = says (lone stray) (second-alone (get_or text 0 0) (drop 1 text) h)

  -- a first half: what follows decides
  module _ (h : FirstHalf (get_or text 0 0)) where
    pub reads-ended : length text < 2 → told_first (Begun 1) ≡ first_says units text
    reads-ended e =
        let n : length text ≤ 1 = omega arith in
        says (record { more = 0; tag = damage ended; sure = false }) (rw (drop_of_length-le text n) (first_ended (get_or text 0 0) h))

    pub reads-stopped : 1 < length text → (SecondHalf (get_or text 1 0) → ⊥) → told_first (Damage 1 (record { 0 = stopped })) ≡ first_says units text
    reads-stopped e o = says (lone stopped) (rw (drop-cons text 1 0 e) (first-stopped (get_or text 0 0) (get_or text 1 0) (drop 2 text) h o))

    pub reads-pair : 1 < length text → SecondHalf (get_or text 1 0) → told_first (Whole 2) ≡ first_says units text
    reads-pair e o =
        says (record { more = 1; tag = whole; sure = true }) (ap (units (get_or text 0 0)) (drop-cons text 1 0 e) ∙ pair-whole (get_or text 0 0) _ (h, o))

-- ---- a whole segment is one unit or a pair

two-halves : (xs : List ℕ) → Sequence rows xs → 1 < length xs → (length xs ≡ 2) × FirstHalf (get_or xs 0 0) × SecondHalf (get_or xs 1 0)
unfolding rows
two-halves = by_rows rows (λ xs. 1 < length xs → (length xs ≡ 2) × FirstHalf (get_or xs 0 0) × SecondHalf (get_or xs 1 0))
    (λ x a h. absurd (omega arith))
    (λ x a y b h. (refl, a, b))
    (λ x a h. absurd (omega arith))

pub whole_pair : (text : List ℕ) (n : ℕ) → Pointed utf16 text n → 1 < n → (n ≡ 2) × FirstHalf (get_or text 0 0) × SecondHalf (get_or text 1 0)
unfolding units
whole_pair text n p h =
    let s = p.seen_as in
    let w : Sequence rows (take n text) = rw (s.text-is, s.long-is) (whole-sequence rows lone_unit rows-sound s.head s.tail s.kind-is) in
    let l : length (take n text) ≡ n = length-take-le n text p.inside in
    omega (arith, two-halves (take n text) w (omega arith), get_or-take n text 0 0 (omega arith), get_or-take n text 1 0 h)
