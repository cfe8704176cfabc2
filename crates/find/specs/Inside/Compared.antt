-- A needle compared with an entry by indices: where it stands, how far it agrees, and where it cannot stand.
use Rattle.std.specs.Prelude.{ℕ, ◌+◌, ◌<◌, ◌≤◌, ◌≡◌, List, length, get_or}

-- the byte at an index
abbrev pub at : List ℕ → ℕ → ℕ
at text i = get_or text i 0

-- the needle stands at k
pub record Stands (entry needle : List ℕ) (k : ℕ) : Type 0 where
  pub inside : k + length needle ≤ length entry
  pub same : (i : ℕ) → i < length needle → at entry (k + i) ≡ at needle i

-- compared at a place from one index up to another, they agree as far as r
pub record Agrees (entry needle : List ℕ) (place from to r : ℕ) : Type 0 where
  pub low : from ≤ r
  pub same : (i : ℕ) → from ≤ i → i < r → at entry (place + i) ≡ at needle i
  pub other : r < to → at entry (place + r) ≡ at needle r → ⊥

-- at none of the first n places one byte stands in the one text and another in the other
abbrev pub Apart : List ℕ → List ℕ → ℕ → ℕ → ℕ → Type 0
Apart text text' a b n = (k : ℕ) → k < n → at text k ≡ a → at text' k ≡ b → ⊥

-- two indices of the needle
pub record Rare (needle : List ℕ) (i j : ℕ) : Type 0 where
  pub first : i < length needle
  pub second : j < length needle

-- from one place on to another, at most the one behind the last where there is room for it, the needle does not stand
pub record Passed (entry needle : List ℕ) (place next : ℕ) : Type 0 where
  pub onward : place ≤ next
  pub inside : next + length needle ≤ length entry + 1
  pub none : (k : ℕ) → place ≤ k → k < next → Stands entry needle k → ⊥
