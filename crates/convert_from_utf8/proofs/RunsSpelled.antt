-- Runs of whole segments in the walks that count and write units: what is counted and spelled at once.
use mathlib.Core.Path.{◌≡◌, refl, sym, ap, ◌∙◌}
use Prim.Native.Nat.{ℕ, ◌+◌, ◌-◌, ◌≤◌}
use mathlib.Core.List.{List, [], ◌∷◌, append-nil}
use lib.ListN.{length, take, drop, length-drop}
use lib.Seq.{drop-drop}
use native.Mathlib.Nat.{zero-add}
use native.Mathlib.Omega.{arith}
use Rattle.theory.specs.Reader.{cut}
use Rattle.std.specs.Prelude.{Option, Some, None}
use Rattle.terms.specs.Form.{Form, converted, first_point}
use Rattle.terms.specs.Strict.{damages}
use Rattle.terms.proofs.ConvertsBack.{whole-none}
use Rattle.terms.specs.declared.Point.{Point}
use Rattle.terms.proofs.PointTold.{point_read}
use Rattle.terms.proofs.WalkBySegments.{part_is}
use Rattle.terms.proofs.WalkWrites.{Met, met, Passed, left, left_end, Counted, counted_start, summed-on, Wrote, wrote-start, lent, back, back_is, filled-room, filled_on}
use Rattle.utf8.specs.Bytes.{bytes}
use Rattle.utf8.specs.Classes.{by_classes}
use Rattle.utf8.specs.Scalar.{number, sequence, utf8, utf8_by}
use Rattle.utf8.proofs.FaithfulForm.{utf8-faithful}
use Rattle.utf16.specs.Scalar.{utf16}
use Rattle.utf8_check.proofs.RunDivides.{Run}
use Rattle.utf8_check.proofs.RunsPassed.{run-written}
use Rattle.convert_point.specs.Puts.{Puts}
use Rattle.convert_point.specs.declared.Target.TheVariants.{Bytes, Units}
use Rattle.convert_point.proofs.Enough.{text_few}
use Rattle.convert_from_utf8.specs.Inside.Spell.{spelled}
use Rattle.convert_from_utf8.proofs.SpellsItsUnits.{spelled-whole}

-- THE WALKS, with the table that they read by: the place that they have come to, and what is counted or written there
pub record Counting (table text rest : List ℕ) (total : ℕ) : Type 0 where
  pub reads : by_classes table ≡ bytes
  pub at : ℕ
  pub rest-is : rest ≡ drop at text
  pub counted : Counted utf8 utf16 text at total

pub record Writing (table text out₀ out rest : List ℕ) (done : ℕ) : Type 0 where
  pub reads : by_classes table ≡ bytes
  pub at : ℕ
  pub rest-is : rest ≡ drop at text
  pub wrote : Wrote utf8 utf16 text out₀ out at done

-- what is counted so far is no more than the text has bytes
pub counted-few : (text : List ℕ) (at total : ℕ) → Counted utf8 utf16 text at total → total ≤ length text
counted-few text at total c = omega (arith, c.same, text_few Bytes Units text)

-- where no code point was read, nothing is left
pub none-left : (F : Form) (rest : List ℕ) → None ≡ first_point F rest → length rest ≤ 0
none-left F [] e = omega arith
none-left F (x ∷ xs) e = absurd (none_some _ e)
  where
    none_some : (p : Point) → ◌≡◌ {A = Option Point} None (Some p) → ⊥
    none_some p e = cc

-- a run has no damage
pub run_undamaged : (text : List ℕ) (n : ℕ) → Run text n → damages bytes (take n text) ≡ []
run_undamaged text n r = whole-none 0 (cut bytes (take n text)) r.all

-- ---- a part that is the text from a place on

module _ (text part : List ℕ) (at : ℕ) (is : part ≡ drop at text) where
  pub part-long : length part ≡ length text - at
  part-long = ap length is ∙ length-drop at text

  pub part_end : length text ≤ at + length part
  part_end = omega (arith, part-long)

  -- the code point at its start, by a table that reads what the paper's rows say
  pub met-there : (table : List ℕ) → by_classes table ≡ bytes → (p : Point) → Some p ≡ first_point (utf8_by table) part
      → Met utf8 text at p.size p.number
  met-there table reads p read =
      let k = point_read utf8 part p (read ∙ ap (λ look. first_point (record { look = look; value = number; write = sequence }) part) reads) in
      met utf8-faithful text at (omega (arith, part-long, k.0)) p.size p.number (rw (part_is text at, ← is) k.1)

  module _ (h : at ≤ length text) where
    -- all of it
    pub passed-rest : Passed (left utf8 utf16 text) (length text) at (length part) (converted utf8 utf16 part)
    passed-rest = record { inside = omega (arith, part-long, h); same = rw (left_end utf8 utf16 text (at + length part) part_end, append-nil, is) }

    -- a run at its start, and as it is spelled
    pub passed-there : (n : ℕ) → Run part n → Passed (left utf8 utf16 text) (length text) at n (converted utf8 utf16 (take n part))
    passed-there n r = record {
      inside = omega (arith, part-long, h, r.inside);
      same = ap (converted utf8 utf16) (sym is) ∙ run-written part n r utf16 ∙ rw (is, drop-drop n at text);
    }

    pub passed-spelled : (n : ℕ) → Run part n → Passed (left utf8 utf16 text) (length text) at n (spelled (take n part))
    passed-spelled n r = rw (spelled-whole (take n part) r.all) (passed-there n r)

-- ---- what the walks have done behind it

module _ (text : List ℕ) (at k : ℕ) (vs : List ℕ) (p : Passed (left utf8 utf16 text) (length text) at k vs) where
  pub counted-on : (total units : ℕ) → Counted utf8 utf16 text at total → units ≡ length vs → Counted utf8 utf16 text (at + k) (total + units)
  counted-on total units c u = rw u (summed-on (left utf8 utf16 text) (length text) at total k vs c p)

  module _ (out₀ out : List ℕ) (done : ℕ) (w : Wrote utf8 utf16 text out₀ out at done) (room : length (converted utf8 utf16 text) ≤ length out₀) where
    pub room-on : length vs ≤ length (lent out done)
    room-on = filled-room (left utf8 utf16 text) (length text) out₀ out at done w room k vs p

    pub wrote_on : (ys : List ℕ) (put : ℕ) → Puts vs (lent out done) ys put → Wrote utf8 utf16 text out₀ (back out done ys) (at + k) (done + put)
    wrote_on ys put q = rw q.count (filled_on (left utf8 utf16 text) (length text) out₀ out at done w room k vs p ys q.output)

-- the first run
module _ (text : List ℕ) (n : ℕ) (r : Run text n) where
  pub first_counted : (units : ℕ) → units ≡ length (converted utf8 utf16 (take n text)) → Counted utf8 utf16 text n units
  first_counted units u =
      rw (zero-add n, zero-add units) at
      (counted-on text 0 n (converted utf8 utf16 (take n text)) (passed-there text text 0 refl (omega arith) n r) 0 units (counted_start utf8 utf16 text) u)

  -- it is put into all of the output
  module _ (out : List ℕ) (room : length (converted utf8 utf16 text) ≤ length out) where
    first-passed : Passed (left utf8 utf16 text) (length text) 0 n (spelled (take n text))
    first-passed = passed-spelled text text 0 refl (omega arith) n r

    pub first-room : length (spelled (take n text)) ≤ length out
    first-room = rw (part_is out 0) at (room-on text 0 n (spelled (take n text)) first-passed out out 0 (wrote-start utf8 utf16 text out) room)

    pub first-wrote : (ys : List ℕ) (put : ℕ) → Puts (spelled (take n text)) out ys put → Wrote utf8 utf16 text out ys n put
    first-wrote ys put q =
        let e : lent out 0 ≡ out = part_is out 0 in
        rw (zero-add n, zero-add put, back_is out 0 ys) at
        (wrote_on text 0 n (spelled (take n text)) first-passed out out 0 (wrote-start utf8 utf16 text out) room ys put (rw e q))
