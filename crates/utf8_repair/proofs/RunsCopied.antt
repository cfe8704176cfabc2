-- Runs of whole segments in the walks over a byte text that is repaired: what they write is themselves.
use mathlib.Core.Path.{◌≡◌, refl, sym, ap, ◌∙◌}
use Prim.Native.Nat.{ℕ, ◌+◌, ◌-◌, ◌≤◌}
use native.Mathlib.Nat.{zero-add}
use mathlib.Core.List.{List, ◌++◌}
use lib.ListN.{length, take, drop}
use lib.Seq.{take-length}
use native.Mathlib.Omega.{arith}
use Rattle.terms.specs.Form.{repaired, converted}
use Rattle.terms.proofs.ConvertsBack.{repaired-converted}
use Rattle.terms.proofs.WalkBySegments.{part_is}
use Rattle.terms.proofs.WalkWrites.{Passed, left, Counted, counted_start, summed-on, Wrote, wrote-start, lent, back, back_is, filled-room, filled_on}
use Rattle.copy.proofs.Copied.{copied_whole}
use Rattle.utf8.specs.Scalar.{utf8}
use Rattle.utf8.proofs.FaithfulForm.{utf8-faithful}
use Rattle.utf8_check.specs.Run.{whole_run}
use Rattle.utf8_check.specs.Pace.{paced_run}
use Rattle.utf8_check.specs.declared.pace.Pace.{Pace}
use Rattle.utf8_check.proofs.RunDivides.{Run, run_long}
use Rattle.utf8_check.proofs.RunsPassed.{run-repaired, run-there, passed-run}
use Rattle.utf8_check.proofs.StandingIsWhole.{run_at}

-- the first n bytes of a text write themselves, where they are whole segments
run-same : (text : List ℕ) (n : ℕ) → Run text n → converted utf8 utf8 (take n text) ≡ take n text
run-same text n r =
    sym (repaired-converted utf8-faithful.reads (take n text)) ∙ run-repaired text n r

-- a text with no damage
module _ (text : List ℕ) (n : ℕ) (e : n ≡ whole_run text) (h : n ≡ length text) where
  pub whole_same : repaired utf8 text ≡ text
  whole_same =
      let r : Run text n = run_at text n e in
      let t : take n text ≡ text = rw h (take-length text) in
      repaired-converted utf8-faithful.reads text ∙ (rw t at (run-same text n r))

-- what was told of the text behind a place, in the walk
module _ (text behind : List ℕ) (at : ℕ) (pace : Pace) (n : ℕ) (h : at ≤ length text) (there : behind ≡ drop at text) (e : n ≡ paced_run behind pace) where
  told : n ≡ paced_run (take (length text - at) (drop at text)) pace
  told = e ∙ ap (λ (l : List ℕ). paced_run l pace) (there ∙ sym (part_is text at))

  stands : Run (drop at text) n
  stands = run-there text at pace n h told

  passed-bytes : Passed (left utf8 utf8 text) (length text) at n (take n (drop at text))
  passed-bytes = rw (run-same (drop at text) n stands) at (passed-run text at pace n h told utf8)

  long : length (take n (drop at text)) ≡ n
  long = run_long (drop at text) n stands

  pub counted-run : (total : ℕ) → Counted utf8 utf8 text at total → Counted utf8 utf8 text (at + n) (total + n)
  counted-run total c = rw long at (summed-on (left utf8 utf8 text) (length text) at total n (take n (drop at text)) c passed-bytes)

  module _ (out₀ out : List ℕ) (done : ℕ) where
    module _ (w : Wrote utf8 utf8 text out₀ out at done) (room : length (converted utf8 utf8 text) ≤ length out₀) where
      bytes-room : n ≤ length (lent out done)
      bytes-room = rw long at (filled-room (left utf8 utf8 text) (length text) out₀ out at done w room n (take n (drop at text)) passed-bytes)

      -- its bytes are copied
      pub wrote-bytes : (ys : List ℕ)
          → ys ≡ take (length (lent out done)) (take n behind) ++ drop (length (take n behind)) (lent out done)
          → Wrote utf8 utf8 text out₀ (back out done ys) (at + n) (done + n)
      wrote-bytes ys e =
          let p : ys ≡ take n (drop at text) ++ drop (length (take n (drop at text))) (lent out done) =
          copied_whole (take n (drop at text)) (lent out done) ys (rw long bytes-room) (rw there at e) in
          rw long at (filled_on (left utf8 utf8 text) (length text) out₀ out at done w room n (take n (drop at text)) passed-bytes ys p)

-- ---- the first run

abbrev first : Pace
first = record { left = 0; wait = 1 }

module _ (text : List ℕ) (n : ℕ) (e : n ≡ whole_run text) where
  paced : n ≡ paced_run text first
  unfolding paced_run
  paced = e

  pub first_counted : Counted utf8 utf8 text n n
  first_counted = rw zero-add at (counted-run text text 0 first n (omega arith) refl paced 0 (counted_start utf8 utf8 text))

  pub first-wrote : (out ys : List ℕ) → length (converted utf8 utf8 text) ≤ length out
      → ys ≡ take (length out) (take n text) ++ drop (length (take n text)) out → Wrote utf8 utf8 text out ys n n
  first-wrote out ys room q =
      let w : Wrote utf8 utf8 text out (back out 0 ys) (0 + n) (0 + n) =
      wrote-bytes text text 0 first n (omega arith) refl paced out out 0 (wrote-start utf8 utf8 text out) room ys (rw (part_is out 0) q) in
      rw (back_is out 0 ys, zero-add) at w
