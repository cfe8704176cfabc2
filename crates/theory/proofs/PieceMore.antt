-- A piece more of a stream, over any division and any action of a segment.
use mathlib.Core.Path.{◌≡◌}
use Prim.Native.Nat.{ℕ}
use mathlib.Core.List.{List, [], ◌++◌, foldl-append}
use Rattle.theory.specs.Reader.{Reader, Segment}
use Rattle.theory.specs.Stream.{fresh, after, feed}
use Rattle.theory.proofs.Divisions.{Division, parts-nil, parts-append}

module _ {K M : Type 0} {look : Reader K} (D : Division look) (act : M → Segment K → M) where
  pub feed-after : (m : M) (xs ys : List ℕ) → feed look act (after look act m xs) ys ≡ after look act m (xs ++ ys)
  feed-after m xs ys = rw (parts-append D xs ys, foldl-append)

  pub after-nil : (m : M) → after look act m [] ≡ fresh m
  after-nil m = rw (parts-nil look)
