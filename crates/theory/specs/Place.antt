-- Places: what has been counted at a boundary of a text; plain lookup by any measure; the last place at or before a count.
use Rattle.std.specs.Prelude.{ℕ, cond, List, [], ◌∷◌, ltb, leb, eqb}
use Rattle.theory.specs.Reader.{Reader, Segment, cut}

-- How places are counted: the place at the start of a text, the place one segment further, and a place's elements before it.
pub record Ruler (K P : Type 0) : Type 0 where
  pub zeroth : P
  pub step : P → Segment K → P
  pub bytes : P → ℕ

-- What a lookup finds: a place; or the offset lies inside a segment, or past the end; or the chosen checkpoint is unusable.
pub data Found (P : Type 0) : Type 0 where
  at : P → Found P
  inside : Found P
  past : Found P
  unusable : ℕ → Found P

-- the places that segments lead to, one behind another
abbrev pub along : {K P : Type 0} → (P → Segment K → P) → P → List (Segment K) → List P
along step p [] = p ∷ []
along step p (s ∷ ss) = p ∷ along step (step p s) ss

-- a measure m is a number read off a place
module _ {K P : Type 0} (step : P → Segment K → P) (m : P → ℕ) where
  -- the count is the offset, or more
  abbrev pub here : ℕ → P → Found P
  here o p = cond (eqb (m p) o) (at p) inside

  -- PLAIN LOOKUP: segments are taken until the count is the offset or more
  abbrev pub lookup : ℕ → P → List (Segment K) → Found P
  lookup o p [] = cond (ltb (m p) o) past (here o p)
  lookup o p (s ∷ ss) = cond (ltb (m p) o) (lookup o (step p s) ss) (here o p)

  -- the last place whose count is at most `most`
  abbrev pub last : ℕ → P → List (Segment K) → P
  last most p [] = p
  last most p (s ∷ ss) = cond (leb (m (step p s)) most) (last most (step p s) ss) p

module _ {K P : Type 0} (look : Reader K) (R : Ruler K P) where
  -- the places of a text: one at each of its boundaries
  abbrev pub places : List ℕ → List P
  places xs = along R.step R.zeroth (cut look xs)

  abbrev pub plain : (P → ℕ) → ℕ → List ℕ → Found P
  plain m o xs = lookup R.step m o R.zeroth (cut look xs)

  -- the last place of a text at or before an element
  abbrev pub mark : ℕ → List ℕ → P
  mark most xs = last R.step R.bytes most R.zeroth (cut look xs)
