-- A run of whole segments in a walk over a byte text: it ends inside the text, and is passed over at once in any form.
use mathlib.Core.Path.{◌≡◌, ◌∙◌}
use Prim.Native.Nat.{ℕ, ◌+◌, ◌-◌, ◌≤◌, ◌<◌}
use mathlib.Core.List.{List, ◌++◌}
use lib.ListN.{length, take, drop, length-drop}
use lib.Seq.{drop-drop}
use lib.Dec.{ltb, leb}
use native.Mathlib.Omega.{arith}
use Rattle.theory.specs.Reader.{cut}
use Rattle.theory.proofs.Cases.{split}
use Rattle.theory.proofs.Divisions.{written-append}
use Rattle.terms.specs.Form.{Form, point_of, repaired, converted}
use Rattle.terms.proofs.ConvertsBack.{whole-none, repaired-same}
use Rattle.terms.proofs.WalkBySegments.{part_is}
use Rattle.terms.proofs.WalkWrites.{Passed, left}
use Rattle.utf8.specs.Bytes.{bytes}
use Rattle.utf8.specs.Scalar.{utf8}
use Rattle.utf8_check.specs.Pace.{paced_run, wait_behind}
use Rattle.utf8_check.specs.declared.pace.Pace.{Pace}
use Rattle.utf8_check.proofs.RunDivides.{Run, run_none}
use Rattle.utf8_check.proofs.StandingIsWhole.{run_at}

-- the form of a text is that of its run, and then that of the rest
pub run-written : (text : List ℕ) (n : ℕ) → Run text n → (G : Form) → converted utf8 G text ≡ converted utf8 G (take n text) ++ converted utf8 G (drop n text)
run-written text n r G = rw r.cuts (written-append (λ s. G.write (point_of utf8 s)) (cut bytes (take n text)) (cut bytes (drop n text)))

-- and repaired it is the run itself
pub run-repaired : (text : List ℕ) (n : ℕ) → Run text n → repaired utf8 (take n text) ≡ take n text
run-repaired text n r = repaired-same utf8 (take n text) (whole-none 0 (cut bytes (take n text)) r.all)

-- at any pace
pub run_paced : (text : List ℕ) (pace : Pace) (n : ℕ) → n ≡ paced_run text pace → Run text n
unfolding paced_run
run_paced text pace n e = split (ltb 0 pace.left)
    (λ t. let z : n ≡ 0 = rw t at e in rw z (run_none text))
    (λ t. run_at text n (rw t at e))

-- what was told of `&text[at..]`, in the walk
module _ (text : List ℕ) (at : ℕ) (pace : Pace) (n : ℕ) (h : at ≤ length text) (e : n ≡ paced_run (take (length text - at) (drop at text)) pace) where
  pub run-there : Run (drop at text) n
  run-there = run_paced (drop at text) pace n (rw (part_is text at) at e)

  pub run_inside : at + n ≤ length text
  run_inside = omega (arith, run-there.inside, length-drop at text)

  pub passed-run : (G : Form) → Passed (left utf8 G text) (length text) at n (converted utf8 G (take n (drop at text)))
  passed-run G = record { inside = run_inside; same = run-written (drop at text) n run-there G ∙ rw (drop-drop n at text) }

-- some segment is read behind each run
pub wait_some : (wait run : ℕ) → 0 < wait → 0 < wait_behind wait run
wait_some wait run h = split (leb 16 run)
    (λ t. rw t (omega arith))
    (λ t. split (leb 1024 wait) (λ u. rw (t, u) (omega arith)) (λ u. rw (t, u) (omega (arith, h))))
