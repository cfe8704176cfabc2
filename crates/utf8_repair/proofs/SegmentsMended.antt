-- The segment that stands first in a byte text, in repaired form: a whole one is itself, a damage U+FFFD.
use mathlib.Core.Path.{◌≡◌, refl, ap}
use Prim.Native.Nat.{ℕ, ◌≤◌, ◌<◌}
use mathlib.Core.Logic.{◌⊎◌, inl, inr}
use mathlib.Core.List.{List, [], ◌∷◌}
use lib.ListN.{length, take}
use lib.Seq.{length-take-le}
use native.Mathlib.Omega.{arith}
use Rattle.terms.specs.Form.{replacement, converted, first_point, point_says}
use Rattle.terms.specs.Told.{told_first, size_of, first_says}
use Rattle.terms.specs.declared.Cause.{Cause}
use Rattle.terms.specs.declared.First.{First}
use Rattle.terms.specs.declared.First.TheVariants.{Nothing, Whole, Damage, Begun}
use Rattle.terms.proofs.PointTold.{Pointed, of_point, point_read, point-whole, point-damage, point-begun}
use Rattle.terms.proofs.WalkBySegments.{nothing_seen}
use Rattle.utf8.specs.Bytes.{bytes}
use Rattle.utf8.specs.Scalar.{number, sequence, utf8}
use Rattle.utf8.proofs.FaithfulForm.{utf8-faithful}
use Rattle.utf8.proofs.RowsOfBytes.{bytes_division}
use Rattle.convert_point.specs.Puts.{Puts}
use Rattle.convert_point.specs.Inside.Passes.{PassesTo}
use Rattle.convert_point.proofs.WalkInPasses.{point-room, point-passes}
use Rattle.utf8_repair.specs.Inside.Places.{places_of}

-- the number of a whole segment is written as the segment
again : (text : List ℕ) (n : ℕ) → Pointed utf8 text n → sequence (number (take n text)) ≡ take n text
again text n p =
    let s = p.seen_as in
    rw (s.text-is, s.long-is) (utf8-faithful.reads.again s.head s.tail s.kind-is)

-- what was read, in the numbers in which it is told
in-numbers : (text : List ℕ) (c n : ℕ) → of_point c n ≡ first_point utf8 text → c ∷ n ∷ [] ≡ point_says utf8 text
in-numbers text c n e = (point_read utf8 text (record { number = c; size = n }) e).1

-- ---- what the segment reader told, as a code point that takes so many places

pub record Standing (text : List ℕ) (r : First) : Type 0 where
  pub point : ℕ
  pub says : point ∷ size_of r ∷ [] ≡ point_says utf8 text
  pub places : length (sequence point) ≡ places_of r

pub standing : (text : List ℕ) (r : First) → 0 < length text → told_first r ≡ first_says bytes text → Standing text r
standing text Nothing some told = absurd (omega (arith, ap length (nothing_seen bytes text told)))
standing text (Whole n) some told =
    let p = point-whole utf8 bytes_division text (Whole n) told n refl in
    record { point = number (take n text); says = in-numbers text _ n p.says; places = rw (again text n p) (length-take-le n text p.inside) }
standing text (Damage n c) some told = record { point = replacement; says = in-numbers text replacement n (point-damage utf8 bytes_division text (Damage n c) told n c refl); places = refl }
standing text (Begun n) some told = record { point = replacement; says = in-numbers text replacement n (point-begun utf8 bytes_division text (Begun n) told n refl); places = refl }

-- where it is a damage, one that ends the text too
pub damaged : (text : List ℕ) (r : First) → told_first r ≡ first_says bytes text
    → ((n : ℕ) × (c : Cause) × (r ≡ Damage n c)) ⊎ ((n : ℕ) × (r ≡ Begun n)) → of_point replacement (size_of r) ≡ first_point utf8 text
damaged text r told (inl q) = rw q.2 (point-damage utf8 bytes_division text r told q.0 q.1 q.2)
damaged text r told (inr q) = rw q.1 (point-begun utf8 bytes_division text r told q.0 q.1)

-- ---- and as it is written

module _ (text : List ℕ) (some : 0 < length text) (n : ℕ) where
  module _ (p : Pointed utf8 text n) where
    pub whole_room : (out : List ℕ) → length (converted utf8 utf8 text) ≤ length out → length (take n text) ≤ length out
    whole_room out h = rw (again text n p) at (point-room utf8-faithful utf8 text some n (number (take n text)) (in-numbers text _ n p.says) out h)

    pub whole-passes : (out out' : List ℕ) (put : ℕ) → Puts (take n text) out out' put → PassesTo utf8 utf8 text out out' n put
    whole-passes out out' put q =
        point-passes utf8-faithful utf8 text some n (number (take n text)) (in-numbers text _ n p.says) out out' put (rw (again text n p) q)

  module _ (says : of_point replacement n ≡ first_point utf8 text) where
    pub damage-room : (out : List ℕ) → length (converted utf8 utf8 text) ≤ length out → 3 ≤ length out
    damage-room = point-room utf8-faithful utf8 text some n replacement (in-numbers text replacement n says)

    pub damage-passes : (out out' : List ℕ) (put : ℕ) → Puts (sequence replacement) out out' put → PassesTo utf8 utf8 text out out' n put
    damage-passes = point-passes utf8-faithful utf8 text some n replacement (in-numbers text replacement n says)
