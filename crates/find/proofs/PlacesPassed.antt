-- Places that are passed over: where two bytes of the needle do not both stand, the needle does not.
use mathlib.Core.Path.{◌≡◌, ap, ◌∙◌}
use Prim.Native.Nat.{ℕ, ◌+◌, ◌-◌, ◌<◌, ◌≤◌}
use mathlib.Core.List.{List}
use lib.ListN.{length, take, drop}
use lib.Seq.{get_or-take, get_or-drop}
use native.Mathlib.Omega.{arith}
use Rattle.theory.proofs.Cases.{under}
use Rattle.find.specs.Inside.Compared.{at, Stands, Apart, Passed}

-- a byte of a part, seen from the start
part_at : (text : List ℕ) (a k : ℕ) → a + k < length text → at (take (length text - a) (drop a text)) k ≡ at text (a + k)
part_at text a k h = get_or-take (length text - a) (drop a text) k 0 (omega arith) ∙ get_or-drop a text k 0

pub passed_none : (entry needle : List ℕ) (place : ℕ) → place + length needle ≤ length entry + 1 → Passed entry needle place place
passed_none entry needle place h = record { onward = omega arith; inside = h; none = λ k u v s. omega arith }

pub passed-both : (entry needle : List ℕ) (place middle next : ℕ) → Passed entry needle place middle → Passed entry needle middle next
    → Passed entry needle place next
passed-both entry needle place middle next p q =
    record {
      onward = omega (arith, p.onward, q.onward);
      inside = q.inside;
      none = λ k u v s. under k middle (λ w. p.none k u w s) (λ w. q.none k w v s);
    }

-- n places from one that was passed on, at which the bytes of two indices are apart
pub passed-more : (entry needle : List ℕ) (place next from i j n : ℕ) → Passed entry needle place next → from ≤ next → next ≤ from + n
    → from + n + length needle ≤ length entry + 1 → i < length needle → j < length needle
    → Apart (take (length entry - (from + i)) (drop (from + i) entry)) (take (length entry - (from + j)) (drop (from + j) entry))
    (at needle i) (at needle j) n
    → Passed entry needle place (from + n)
passed-more entry needle place next from i j n p l h z a b apart =
    record {
      onward = omega (arith, p.onward);
      inside = z;
      none = λ k u v s. under k next
          (λ w. p.none k u w s)
          (λ w. apart (k - from) (omega arith) (stands k (omega arith) s i a) (stands k (omega arith) s j b));
    }
  where
    stands : (k : ℕ) → from ≤ k → Stands entry needle k → (d : ℕ) → d < length needle
        → at (take (length entry - (from + d)) (drop (from + d) entry)) (k - from) ≡ at needle d
    stands k w s d t = part_at entry (from + d) (k - from) (omega (arith, s.inside)) ∙ ap (at entry) (omega arith) ∙ s.same d t
