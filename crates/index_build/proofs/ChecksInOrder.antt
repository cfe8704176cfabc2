-- The checks of a call, in their order.
use mathlib.Core.Path.{◌≡◌, sym, ◌∙◌}
use Prim.Native.Nat.{ℕ, ◌+◌, ◌≤◌, ◌<◌}
use mathlib.Core.Bool.{true, false}
use mathlib.Core.List.{[], ◌∷◌}
use borrow.Author.Tests.{lt-ltb, le-ltb}
use Rattle.terms.specs.Limits.{limit}
use Rattle.terms.proofs.Tested.{tested-unsound, tested-over, tested-then}
use Rattle.index_checkpoint.specs.Checkpoints.{needed}
use Rattle.index_build.specs.State.{sound, build_says}
use Rattle.index_build.specs.declared.state.Builder.{Builder}

module _ (b : Builder) (more room : ℕ) where
  pub says-unsound : sound b ≡ false → 8 ∷ [] ≡ build_says b more room
  says-unsound = tested-unsound (sound b) b.taken more _

  module _ (s : sound b ≡ true) where
    pub says-over : limit < b.taken + more → 2 ∷ [] ≡ build_says b more room
    says-over = tested-over (sound b) b.taken more _ s

    pub says-short : b.taken + more ≤ limit → (n : ℕ) → n ≡ needed (b.taken + more) → room < n → 3 ∷ n ∷ [] ≡ build_says b more room
    says-short w n e h = sym (tested-then (sound b) b.taken more _ s w ∙ rw (← e, lt-ltb room n h))

    pub says-done : b.taken + more ≤ limit → needed (b.taken + more) ≤ room → 0 ∷ [] ≡ build_says b more room
    says-done w h = sym (tested-then (sound b) b.taken more _ s w ∙ rw (le-ltb room (needed (b.taken + more)) h))
