-- The test of a slice that is to hold a state.
use mathlib.Core.Path.{◌≡◌}
use Prim.Native.Nat.{ℕ, ◌≤◌}
use mathlib.Core.Bool.{true}
use mathlib.Core.List.{List}
use lib.ListN.{length, get_or}
use lib.Dec.{leb, ltb}
use borrow.Author.Tests.{le-leb, leb-true}
use Rattle.theory.proofs.Cases.{both}
use Rattle.terms.specs.Limits.{most_pending}
use Rattle.bridge_numbers.specs.Telling.{put}
use Rattle.bridge_numbers.specs.States.{is_state, is_unit_state, kept}

module _ (n : ℕ) (s : List ℕ) where
  -- it has so many numbers
  pub state-long : is_state n s ≡ true → n ≤ length s
  state-long e =
      let a = both _ (ltb (get_or s 2 0) 256) e in
      let b = both _ (ltb (get_or s 1 0) 256) a.0 in
      let d = both _ (ltb (get_or s 0 0) 256) b.0 in
      leb-true n (length s) (both (leb n (length s)) (leb most_pending (length s)) d.0).0

  -- what is kept in it
  pub kept-long : (numbers : List ℕ) → n ≤ length s → kept n numbers s ≡ put numbers s
  kept-long numbers h = rw (le-leb n (length s) h)

-- ---- the state of a decoder of units

-- it has so many numbers
pub unit-state-long : (s : List ℕ) → is_unit_state s ≡ true → 7 ≤ length s
unit-state-long s e = leb-true 7 (length s) (both (leb 7 (length s)) (ltb (get_or s 0 0) 0x10000) e).0
