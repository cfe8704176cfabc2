-- A walk over what is left of a byte text that is repaired: each turn is a segment, and the run behind it.
use mathlib.Core.Path.{◌≡◌, refl, sym, ap, ◌∙◌}
use Prim.Native.Nat.{ℕ, ◌+◌, ◌-◌, ◌≤◌, ◌<◌}
use mathlib.Core.List.{List, ◌++◌, append-nil}
use lib.ListN.{length, take, drop, length-drop}
use native.Mathlib.Omega.{arith}
use Rattle.terms.specs.Form.{converted, point_says}
use Rattle.terms.specs.Told.{told_first, size_of, first_says}
use Rattle.terms.specs.declared.First.{First}
use Rattle.terms.proofs.WalkBySegments.{part_is}
use Rattle.terms.proofs.WalkWrites.{Met, met, left, left_end, Counted, counted_start, counted_next, counted-end, Wrote, wrote-start, wrote-end, lent, back, filled_on, lent-there}
use Rattle.utf8.specs.Bytes.{bytes}
use Rattle.utf8.specs.Scalar.{utf8}
use Rattle.utf8.proofs.FaithfulForm.{utf8-faithful}
use Rattle.convert_point.specs.Puts.{Puts}
use Rattle.convert_point.specs.Inside.Passes.{PassesTo}
use Rattle.convert_point.proofs.WalkInPasses.{rest-room, wrote-pass}
use Rattle.utf8_check.specs.Pace.{paced_run}
use Rattle.utf8_check.specs.declared.pace.Pace.{Pace}
use Rattle.utf8_repair.specs.Inside.Places.{places_of}
use Rattle.utf8_repair.proofs.RunsCopied.{counted-run, wrote-bytes}
use Rattle.utf8_repair.proofs.SegmentsMended.{Standing, standing}

-- ---- the need

pub record Counts (text rest : List ℕ) (total : ℕ) : Type 0 where
  pub at : ℕ
  pub there : rest ≡ drop at text
  pub counted : Counted utf8 utf8 text at total

pub counts_start : (text : List ℕ) → Counts text text 0
counts_start text = record { at = 0; there = refl; counted = counted_start utf8 utf8 text }

module _ (text rest : List ℕ) (total : ℕ) (c : Counts text rest total) where
  -- no more than the whole
  pub counts-few : total ≤ length (converted utf8 utf8 text)
  counts-few = omega (arith, c.counted.same)

  pub counts_end : length rest ≤ 0 → total ≡ length (converted utf8 utf8 text)
  counts_end h =
      let l : length text ≤ c.at = omega (arith, ap length c.there, length-drop c.at text) in
      counted-end utf8 utf8 text c.at total c.counted l

  module _ (some : 0 < length rest) (r : First) (told : told_first r ≡ first_says bytes rest) where
    stood : Standing rest r
    stood = standing rest r some told

    here : Met utf8 text c.at (size_of r) stood.point
    here =
        let l : c.at < length text = omega (arith, ap length c.there, length-drop c.at text) in
        met utf8-faithful text c.at l (size_of r) stood.point (stood.says ∙ ap (point_says utf8) (c.there ∙ sym (part_is text c.at)))

    pub size-some : 0 < size_of r
    size-some = here.some

    pub size-inside : size_of r ≤ length rest
    size-inside = omega (arith, here.inside, ap length c.there, length-drop c.at text)

    mended : Counted utf8 utf8 text (c.at + size_of r) (total + places_of r)
    mended = rw stood.places at (counted_next utf8 utf8 text c.at total (size_of r) stood.point c.counted here)

    behind : lent rest (size_of r) ≡ drop (c.at + size_of r) text
    behind = lent-there text rest c.at c.there (size_of r)

    pub counts-turn : (pace : Pace) (k : ℕ) → k ≡ paced_run (lent rest (size_of r)) pace → Counts text (lent (lent rest (size_of r)) k) (total + (places_of r + k))
    counts-turn pace k e =
        let s : total + places_of r + k ≡ total + (places_of r + k) = omega arith in
        record {
          at = c.at + size_of r + k;
          there = lent-there text (lent rest (size_of r)) (c.at + size_of r) behind k;
          counted = rw s at (counted-run text (lent rest (size_of r)) (c.at + size_of r) pace k here.inside behind e (total + places_of r) mended);
        }

-- ---- the writing

pub record Writing (text out₀ rest out : List ℕ) (done : ℕ) : Type 0 where
  pub at : ℕ
  pub there : rest ≡ drop at text
  pub wrote : Wrote utf8 utf8 text out₀ out at done

pub writing_start : (text out : List ℕ) → Writing text out text out 0
writing_start text out = record { at = 0; there = refl; wrote = wrote-start utf8 utf8 text out }

module _ (text out₀ rest out : List ℕ) (done : ℕ) (c : Writing text out₀ rest out done) where
  pub writing-end : length rest ≤ 0 → Puts (converted utf8 utf8 text) out₀ out done
  writing-end h =
      let l : length text ≤ c.at = omega (arith, ap length c.there, length-drop c.at text) in
      let e = wrote-end utf8 utf8 text out₀ out c.at done c.wrote l in
      record { count = e.0; output = e.1 }

  module _ (room : length (converted utf8 utf8 text) ≤ length out₀) where
    pub writing-room : length (converted utf8 utf8 rest) ≤ length (lent out done)
    writing-room = rw (c.there, ← part_is text c.at) (rest-room utf8 utf8 text out₀ out c.at done c.wrote room)

    module _ (ys : List ℕ) (n put : ℕ) (q : PassesTo utf8 utf8 rest (lent out done) ys n put) where
      pub mended-wrote : Wrote utf8 utf8 text out₀ (back out done ys) (c.at + n) (done + put)
      mended-wrote =
          wrote-pass utf8 utf8 text out₀ out c.at done c.wrote room ys n put (rw (part_is text c.at, ← c.there) q)

      next : lent rest n ≡ drop (c.at + n) text
      next = lent-there text rest c.at c.there n

      pub writing-turn : (pace : Pace) (k : ℕ) → k ≡ paced_run (lent rest n) pace → (zs : List ℕ)
          → zs ≡ take (length (lent (back out done ys) (done + put))) (take k (lent rest n)) ++ drop (length (take k (lent rest n))) (lent (back out done ys) (done + put))
          → Writing text out₀ (lent (lent rest n) k) (back (back out done ys) (done + put) zs) (done + put + k)
      writing-turn pace k e zs z = record {
        at = c.at + n + k;
        there = lent-there text (lent rest n) (c.at + n) next k;
        wrote = wrote-bytes text (lent rest n) (c.at + n) pace k mended-wrote.inside next e out₀ (back out done ys) (done + put) mended-wrote room zs z;
      }

-- ---- the rest of a text behind what was written, where it is written by itself

module _ (text out₀ out : List ℕ) (at n : ℕ) (w : Wrote utf8 utf8 text out₀ out at n) (room : length (converted utf8 utf8 text) ≤ length out₀) where
  pub wrote-rest : (ys : List ℕ) (r : ℕ) → Puts (converted utf8 utf8 (lent text at)) (lent out n) ys r → Puts (converted utf8 utf8 text) out₀ (back out n ys) (n + r)
  wrote-rest ys r q =
      let k : ℕ = length text - at in
      let vs : List ℕ = left utf8 utf8 text at in
      let p : Puts vs (lent out n) ys r = rw (part_is text at) at q in
      let i : at + k ≡ length text = omega (arith, w.inside) in
      let f = filled_on (left utf8 utf8 text) (length text) out₀ out at n w room k vs
      (record { inside = omega arith; same = rw (left_end utf8 utf8 text (at + k) (omega arith), append-nil) }) ys p.output in
      let e = wrote-end utf8 utf8 text out₀ (back out n ys) (at + k) (n + length vs) f (omega arith) in
      rw p.count (record { count = e.0; output = e.1 })
