-- The walk of a search: no match lies before the place that it has come to, and so many bytes there are known to match.
use mathlib.Core.Path.{◌≡◌, sym, ap, ◌∙◌}
use Prim.Native.Nat.{ℕ, ◌+◌, ◌-◌, ◌<◌, ◌≤◌}
use mathlib.Core.List.{List}
use lib.ListN.{length}
use native.Mathlib.Omega.{arith}
use Rattle.theory.proofs.Cases.{under}
use Rattle.std.specs.Prelude.{None, Some}
use Rattle.find.specs.Match.{first_match}
use Rattle.find.specs.Inside.Compared.{at, Stands, Agrees, Passed}
use Rattle.find.specs.Inside.Cuts.{Rep, Cut}
use Rattle.find.proofs.FirstMatch.{first_match_lem, none_match}

pub record Walked (entry needle : List ℕ) (place seen : ℕ) : Type 0 where
  pub inside : place ≤ length entry
  pub none : (k : ℕ) → k < place → Stands entry needle k → ⊥
  pub low : seen ≤ length needle
  pub known : (i : ℕ) → i < seen → at entry (place + i) ≡ at needle i

-- further on, with nothing known
onward : (entry needle : List ℕ) (place seen : ℕ) → Walked entry needle place seen → (next : ℕ) → next ≤ length entry
    → ((k : ℕ) → place ≤ k → k < next → Stands entry needle k → ⊥) → Walked entry needle next 0
onward entry needle place seen w next h none =
    record {
      inside = h;
      none = λ k u s. under k place (λ v. w.none k v s) (λ v. none k v u s);
      low = omega arith;
      known = λ i u. absurd (omega arith);
    }

pub walked_start : (entry needle : List ℕ) → Walked entry needle 0 0
walked_start entry needle =
    record { inside = omega arith; none = λ k h s. absurd (omega arith); low = omega arith; known = λ i h. absurd (omega arith) }

-- from a place on that no match lies before
pub walked_from : (entry needle : List ℕ) → 0 < length needle → (from : ℕ) → Passed entry needle 0 from → Walked entry needle from 0
walked_from entry needle h from p = onward entry needle 0 0 (walked_start entry needle) from (omega (arith, p.inside)) p.none

pub walked-passed : (entry needle : List ℕ) (place seen : ℕ) → place + length needle ≤ length entry + 1 → Walked entry needle place seen
    → Passed entry needle 0 place
walked-passed entry needle place seen h w = record { onward = omega arith; inside = h; none = λ k u v s. w.none k v s }

module _ (entry needle : List ℕ) (place seen : ℕ) (w : Walked entry needle place seen) where
  pub walked_end : length entry - place < length needle → None ≡ first_match entry needle
  walked_end h = rw (none_match entry needle (λ k s. under k place (λ u. w.none k u s) (λ u. omega (arith, s.inside))))

  pub walked-found : place + length needle ≤ length entry → ((i : ℕ) → i < length needle → at entry (place + i) ≡ at needle i)
      → Some place ≡ first_match entry needle
  walked-found h e = rw (first_match_lem entry needle place (record { stands = record { inside = h; same = e }; none = w.none }))

  -- one place on: some byte differs
  pub walked_one : place + length needle ≤ length entry → (i : ℕ) → i < length needle → (at entry (place + i) ≡ at needle i → ⊥)
      → 0 < length needle → Walked entry needle (place + 1) 0
  walked_one h i a e z =
      onward entry needle place seen w (place + 1) (omega arith)
      (λ k u v s. e (ap (λ (n : ℕ). at entry (n + i)) (omega arith) ∙ s.same i a))

  -- over places where the needle cannot stand, where nothing is known
  pub walked-over : 0 < length needle → (next : ℕ) → Passed entry needle place next → (0 < seen → next ≡ place) → Walked entry needle next seen
  walked-over z next p stay = under 0 seen
      (λ h. rw (stay h) w)
      (λ h.
      let none : seen ≡ 0 = omega arith in
      rw none (onward entry needle place seen w next (omega (arith, p.inside)) p.none))

  -- ---- by a cut

  module _ (cut shift keep : ℕ) (c : Cut (at needle) (length needle) cut shift keep) (h : place + length needle ≤ length entry) where
    -- the needle stands r further on, where it agrees from the cut as far as i: a repetition around the cut
    repeats : (i : ℕ) → i ≤ length needle → ((j : ℕ) → cut ≤ j → j < i → at entry (place + j) ≡ at needle j)
        → (r : ℕ) → Stands entry needle (place + r) → ((j : ℕ) → j < cut → j + r < length needle → j + r < i)
        → Rep (at needle) (length needle) cut r
    repeats i b e r s n j u v z = sym (s.same j (omega (arith, c.inside))) ∙ ap (at entry) (omega arith) ∙ e (j + r) v (n j u z)

    moved : (k : ℕ) → place ≤ k → Stands entry needle k → Stands entry needle (place + (k - place))
    moved k u s = record { inside = omega (arith, s.inside); same = λ j z. ap (at entry) (omega arith) ∙ s.same j z }

    module _ (from i : ℕ) (a : Agrees entry needle place from (length needle) i) (gap : (j : ℕ) → cut ≤ j → j < from → j < seen) where
      -- the right part, as far as it agrees
      right : (j : ℕ) → cut ≤ j → j < i → at entry (place + j) ≡ at needle j
      right j u v = under j from (λ z. w.known j (gap j u z)) (λ z. a.same j z v)

      -- a byte of the right part differs: behind it
      pub walked-right : cut ≤ i → i < length needle → Walked entry needle (place + (i - cut + 1)) 0
      walked-right b n =
          onward entry needle place seen w (place + (i - cut + 1)) (omega (arith, c.inside))
          (λ k u v s. further (k - place) (omega arith) (moved k u s))
        where
          differs : at entry (place + i) ≡ at needle i → ⊥
          differs = a.other n

          further : (r : ℕ) → r ≤ i - cut → Stands entry needle (place + r) → ⊥
          further r l s = under 0 r
              (λ z.
              let q = repeats i (omega arith) right r s (λ j u v. omega arith) in
              differs
              (ap (at entry) (omega arith)
              ∙ s.same (i - r) (omega arith)
              ∙ c.right r z q (i - r) (omega arith) (omega arith)
              ∙ ap (at needle) (omega arith)))
              (λ z. differs (ap (at entry) (omega arith) ∙ s.same i n))

      module _ (b : length needle ≤ i) (j : ℕ) (o : Agrees entry needle place seen cut j) where
        -- both parts agree
        pub walked_all : cut ≤ j → Some place ≡ first_match entry needle
        walked_all z =
            walked-found h
            (λ d u. under d cut
            (λ v. under d seen (λ t. w.known d t) (λ t. o.same d t (omega arith)))
            (λ v. right d v (omega arith)))

        -- a byte of the left part differs: by the shift
        pub walked-left : j < cut → Walked entry needle (place + shift) keep
        walked-left z =
            record {
              inside = omega (arith, c.short);
              none = λ k u s. under k place (λ v. w.none k v s) (λ v. further (k - place) (omega arith) (moved k v s));
              low = c.low;
              known = λ d u.
                  let t = c.kept d u in
                  ap (at entry) (omega arith) ∙ right (d + shift) t.0 (omega (arith, t.1)) ∙ sym t.2;
            }
          where
            further : (r : ℕ) → r < shift → Stands entry needle (place + r) → ⊥
            further r l s = under 0 r
                (λ t.
                let q = c.far r t (repeats (length needle) (omega arith) (λ d u v. right d u (omega arith)) r s (λ d u v. v)) in
                omega arith)
                (λ t. o.other z (ap (at entry) (omega arith) ∙ s.same j (omega (arith, c.inside))))
