-- The viewer's numbers from what the calls told.
use mathlib.Core.Path.{◌≡◌, refl}
use Prim.Native.Nat.{ℕ, ◌≤◌}
use mathlib.Core.Bool.{false}
use mathlib.Core.List.{List, [], ◌∷◌}
use lib.ListN.{length, get_or}
use lib.Dec.{ltb}
use native.Mathlib.Omega.{arith}
use Rattle.theory.specs.Table.{Kind, cause_of}
use Rattle.theory.specs.Tally.{Entry}
use Rattle.theory.proofs.Cases.{split}
use Rattle.terms.specs.Limits.{limit}
use Rattle.terms.specs.Strict.{damages, check_says}
use Rattle.terms.specs.Told.{told_refusal}
use Rattle.terms.specs.declared.Refusal.{Refusal}
use Rattle.terms.proofs.WalkBySegments.{damage_within}
use Rattle.utf8.specs.Bytes.{bytes}
use Rattle.viewer.specs.Replies.{Small}

-- what the check refuses is small
abbrev SmallNumbers : List ℕ → Type 0
SmallNumbers l = (get_or l 1 0 ≤ limit) × (get_or l 2 0 ≤ limit)

small-says : (text : List ℕ) → SmallNumbers (check_says bytes text)
small-says text = split (ltb limit (length text)) (λ t. rw t (omega arith)) (λ t. go (damages bytes text) refl t)
  where
    go : (ds : List (Entry Kind)) → damages bytes text ≡ ds → ltb limit (length text) ≡ false → SmallNumbers (check_says bytes text)
    go [] e t = rw (t, e) (omega arith)
    go (d ∷ ds) e t =
        let w = damage_within bytes text d.start d.long (cause_of d.tag) (rw (t, e)) in
        rw (t, e) (omega arith)

pub small : (text : List ℕ) (r : Refusal) → told_refusal r ≡ check_says bytes text → Small r
small text r e = rw e (small-says text)
