-- A text that comes in pieces. An action says what one segment does to whatever is kept: output, counts, a list, an index.
use Rattle.std.specs.Prelude.{ℕ}
use mathlib.Core.List.{List, [], ◌∷◌, ◌++◌, foldl}
use Rattle.theory.specs.Reader.{Reader, Segment, cut, parts}

-- the joined text
abbrev pub join : List (List ℕ) → List ℕ
join [] = []
join (p ∷ ps) = p ++ join ps

-- what is pending, and what is kept
pub record State (M : Type 0) : Type 0 where
  pub left : List ℕ
  pub kept : M

abbrev pub fresh : {M : Type 0} → M → State M
fresh m = record { left = []; kept = m }

module _ {K M : Type 0} (look : Reader K) (act : M → Segment K → M) where
  -- what is settled of a text acts, and the rest is left
  abbrev pub after : M → List ℕ → State M
  after m xs = record { left = (parts look xs).left; kept = foldl act m (parts look xs).done }

  -- a piece is read behind what was pending
  abbrev pub feed : State M → List ℕ → State M
  feed s piece = after s.kept (s.left ++ piece)

  -- at the end what is pending is a text of its own
  abbrev pub finish : State M → M
  finish s = foldl act s.kept (cut look s.left)
