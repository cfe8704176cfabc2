-- The plain walk to the first code point that a page lacks: up to the place that it has come to nothing is lacking.
use mathlib.Core.Path.{◌≡◌, refl, sym, ap, ◌∙◌}
use Prim.Native.Nat.{ℕ, ◌+◌, ◌≤◌}
use mathlib.Core.Bool.{true, false}
use mathlib.Core.List.{List, []}
use lib.ListN.{length, drop, drop_of_length-le}
use native.Mathlib.Omega.{arith}
use Rattle.theory.specs.Reader.{cut}
use Rattle.theory.proofs.Divisions.{cut-nil}
use Rattle.terms.proofs.WalkWrites.{Met}
use Rattle.utf8.specs.Bytes.{bytes}
use Rattle.utf8.specs.Scalar.{utf8}
use Rattle.page.specs.Paged.{has}
use Rattle.page.specs.Lacking.{lacking, first_or, held_up_to}
use Rattle.convert_from_utf8.proofs.HeldWalk.{met-size}

module _ (table text : List ℕ) where
  pub record Passed (at : ℕ) : Type 0 where
    pub inside : at ≤ length text
    pub same : lacking table 0 (cut bytes text) ≡ lacking table at (cut bytes (drop at text))

  pub passed_start : Passed 0
  passed_start = record { inside = omega arith; same = refl }

  module _ (at : ℕ) (p : Passed at) where
    pub passed-end : length text ≤ at → at ≡ held_up_to table text
    passed-end h =
        let e : lacking table 0 (cut bytes text) ≡ [] = p.same ∙ rw (drop_of_length-le text h, cut-nil) in
        rw e (omega (arith, p.inside))

    module _ (n c : ℕ) (m : Met utf8 text at n c) where
      pub passed-next : has table c ≡ true → Passed (at + n)
      passed-next h = record { inside = m.inside; same = p.same ∙ rw (m.cuts, m.point-is, h, met-size table text at n c m) }

      pub passed-stop : has table c ≡ false → at ≡ held_up_to table text
      passed-stop h = sym (ap (first_or (length text)) p.same ∙ rw (m.cuts, m.point-is, h))
