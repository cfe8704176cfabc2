-- A text divided into segments by a reader, and what of it is settled while more text may follow.
use Rattle.std.specs.Prelude.{ℕ, zero, suc, Bool, true, not, cond, List, [], ◌∷◌, take, drop}

-- What a reader sees at the start of a text that is not empty: how many elements the first segment takes behind its first
-- one, the segment's tag, and whether that is sure: whether it stands whatever follows the text.
pub record Look (K : Type 0) : Type 0 where
  pub more : ℕ
  pub tag : K
  pub sure : Bool

abbrev pub Reader : Type 0 → Type 0
Reader K = ℕ → List ℕ → Look K

-- a segment: its elements, one at least, and its tag
pub record Segment (K : Type 0) : Type 0 where
  pub head : ℕ
  pub tail : List ℕ
  pub tag : K

abbrev pub body : {K : Type 0} → Segment K → List ℕ
body s = s.head ∷ s.tail

-- the segments that are settled, and the text that is left
pub record Parts (K : Type 0) : Type 0 where
  pub done : List (Segment K)
  pub left : List ℕ

abbrev pub onto : {K : Type 0} → Segment K → Parts K → Parts K
onto s p = record { done = s ∷ p.done; left = p.left }

module _ {K : Type 0} (look : Reader K) where
  -- the first segment of x ∷ xs, and the text behind it
  abbrev pub first : ℕ → List ℕ → Segment K
  first x xs = record { head = x; tail = take (look x xs).more xs; tag = (look x xs).tag }

  abbrev pub rest : ℕ → List ℕ → List ℕ
  rest x xs = drop (look x xs).more xs

  -- the segments of a text behind its first k elements, which are passed over one by one
  unfoldable pub cut_from : ℕ → List ℕ → List (Segment K)
  cut_from k [] = []
  cut_from zero (x ∷ xs) = first x xs ∷ cut_from (look x xs).more xs
  cut_from (suc k) (x ∷ xs) = cut_from k xs

  -- THE DIVISION OF A TEXT: its first segment, and then those of the rest
  unfoldable pub cut : List ℕ → List (Segment K)
  cut xs = cut_from zero xs

  -- the same as far as it is sure, and what is left
  unfoldable pub parts_from : ℕ → List ℕ → Parts K
  parts_from k [] = record { done = []; left = [] }
  parts_from zero (x ∷ xs) =
      let r = parts_from (look x xs).more xs in
      cond (look x xs).sure (onto (first x xs) r) (record { done = []; left = x ∷ xs })
  parts_from (suc k) (x ∷ xs) = parts_from k xs

  unfoldable pub parts : List ℕ → Parts K
  parts xs = parts_from zero xs

  -- nothing of this text is settled: what may be kept until more text comes
  abbrev pub pending : List ℕ → Bool
  pending [] = true
  pending (x ∷ xs) = not (look x xs).sure
