-- The answers of lookup, by any measure, at the place that a walk has reached.
use mathlib.Core.Path.{◌≡◌}
use Prim.Native.Nat.{ℕ, ◌+◌, ◌≤◌, ◌<◌}
use mathlib.Core.List.{List, [], ◌∷◌}
use lib.ListN.{length}
use lib.Seq.{drop-length}
use borrow.Author.Tests.{lt-ltb, le-ltb, eq-eqb, ne_eqb}
use native.Mathlib.Omega.{arith}
use Rattle.theory.specs.Reader.{Segment}
use Rattle.theory.specs.Place.{here, lookup}
use Rattle.theory.proofs.Divisions.{cut-nil}
use Rattle.terms.specs.Limits.{limit}
use Rattle.place.specs.Measures.{Tag, ruler, reader}
use Rattle.place.specs.Lookup.{four_counts, lookup_says}
use Rattle.place.specs.Walk.{walk_says}
use Rattle.place.specs.declared.Place.{Place}
use Rattle.place.proofs.OneStep.{Taken}
use Rattle.place.proofs.WalkReached.{Reached, reached-next}

abbrev pub Seeks : (Place → ℕ) → ℕ → Place → List ℕ → ℕ → Place → Type 0
Seeks m o = Reached (lookup ruler.step m o)

module _ (m : Place → ℕ) (o : ℕ) {from : Place} {text : List ℕ} {at : ℕ} {p : Place} (r : Seeks m o from text at p) where
  -- the count is less than the offset: one segment more is taken
  pub seeks-next : m p < o → {at' : ℕ} {q : Place} → Taken text at p q → q.bytes ≡ from.bytes + at' → Seeks m o from text at' q
  seeks-next h t e = reached-next r t e (λ ss. rw (lt-ltb (m p) o h, t.place))

  -- or the text has ended
  pub seeks-past : m p < o → at ≡ length text → 4 ∷ [] ≡ walk_says m o from text
  seeks-past h e = rw (r.same, e, drop-length text, cut-nil reader, lt-ltb (m p) o h)

  -- the count is the offset, or more
  stops : o ≤ m p → (ss : List (Segment Tag)) → lookup ruler.step m o p ss ≡ here ruler.step m o p
  stops h [] = rw (le-ltb (m p) o h)
  stops h (s ∷ ss) = rw (le-ltb (m p) o h)

  pub seeks-at : m p ≡ o → 0 ∷ four_counts p ≡ walk_says m o from text
  seeks-at e = rw (r.same, stops (omega arith), eq-eqb (m p) o e)

  pub seeks-inside : o < m p → 5 ∷ [] ≡ walk_says m o from text
  seeks-inside h = rw (r.same, stops (omega arith), ne_eqb (m p) o (omega arith))

-- refusal 2 goes before
module _ (m : Place → ℕ) (o : ℕ) (text : List ℕ) where
  pub lookup-over : limit < length text → 2 ∷ [] ≡ lookup_says m o text
  lookup-over h = rw (lt-ltb limit (length text) h)

  pub lookup-within : length text ≤ limit → walk_says m o ruler.zeroth text ≡ lookup_says m o text
  lookup-within h = rw (le-ltb limit (length text) h)
