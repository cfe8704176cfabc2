-- The checks before every call: each way through them, and that what is granted has passed them.
use mathlib.Core.Path.{◌≡◌, sym}
use Prim.Native.Nat.{ℕ, ◌+◌, ◌≤◌, ◌<◌}
use mathlib.Core.Bool.{Bool, true, false, true≢false}
use mathlib.Core.List.{List, [], ◌∷◌}
use lib.Dec.{ltb}
use borrow.Author.Tests.{lt-ltb, le-ltb, ltb-false}
use Rattle.theory.proofs.Cases.{split}
use Rattle.terms.specs.Checks.{tested}
use Rattle.terms.specs.Limits.{limit}
use Rattle.terms.specs.Told.{is_granted}

module _ (sound : Bool) (taken more : ℕ) (says : List ℕ) where
  pub tested-unsound : sound ≡ false → 8 ∷ [] ≡ tested sound taken more says
  tested-unsound s = rw s

  module _ (s : sound ≡ true) where
    pub tested-over : limit < taken + more → 2 ∷ [] ≡ tested sound taken more says
    tested-over h = rw (s, lt-ltb limit (taken + more) h)

    pub tested-then : taken + more ≤ limit → tested sound taken more says ≡ says
    tested-then h = rw (s, le-ltb limit (taken + more) h)

  -- a granted call has passed both, and then grants what it says
  pub record Passed : Type 0 where
    pub tests : sound ≡ true
    pub within : taken + more ≤ limit
    pub grants : is_granted says ≡ true

  pub granted-passed : is_granted (tested sound taken more says) ≡ true → Passed
  granted-passed g = split sound
      (λ s. split (ltb limit (taken + more))
      (λ o. absurd (true≢false (sym (rw (s, o) at g))))
      (λ o. record { tests = s; within = ltb-false limit (taken + more) o; grants = rw (s, o) at g }))
      (λ s. absurd (true≢false (sym (rw s at g))))
