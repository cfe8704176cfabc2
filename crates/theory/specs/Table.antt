-- Readers by a table of well-formed sequences, as the Unicode Standard's table 3-7: a row has a range for each element.
use Rattle.std.specs.Prelude.{ℕ, zero, suc, Bool, true, false, cond, ◌&&◌, ◌||◌, List, [], ◌∷◌, leb}
use Rattle.std.proofs.Math.Option.{Option, none, some}
use Rattle.theory.specs.Reader.{Look, Reader}

-- the numbers from a first to a last
pub record Range : Type 0 where
  pub low : ℕ
  pub high : ℕ

infix 80 ◌to◌
abbrev pub ◌to◌ : ℕ → ℕ → Range
low to high = record { low = low; high = high }

abbrev pub within : Range → ℕ → Bool
within r x = leb r.low x && leb x r.high

-- a number lies in one of some ranges
abbrev pub among : List Range → ℕ → Bool
among [] x = false
among (r ∷ rs) x = within r x || among rs x

-- a row: the range of the first element, and those of the later ones
pub record Row : Type 0 where
  pub lead : Range
  pub later : List Range

-- THE CAUSES OF DAMAGE by their numbers: an element that only goes on with sequences, and none goes on here; an element that stands in no
-- sequence; a begun sequence that another element stops; and one that the end of the text stops
abbrev pub stray : ℕ
stray = 1

abbrev pub foreign : ℕ
foreign = 2

abbrev pub stopped : ℕ
stopped = 3

abbrev pub ended : ℕ
ended = 4

-- what a segment is: whole, or damage of a cause
pub data Kind : Type 0 where
  whole : Kind
  damage : ℕ → Kind

abbrev pub is_damage : Kind → Bool
is_damage whole = false
is_damage (damage c) = true

-- the cause that it is read with, 0 where it is whole
abbrev pub cause_of : Kind → ℕ
cause_of whole = 0
cause_of (damage c) = c

-- one element more
abbrev pub longer : {K : Type 0} → Look K → Look K
longer l = record { more = suc l.more; tag = l.tag; sure = l.sure }

-- A sequence that is begun and wants an element of each of these ranges: it is whole once it has them; damage, if another
-- element stops it; and damage that is not sure, if the text ends first.
abbrev pub want : List Range → List ℕ → Look Kind
want [] xs = record { more = zero; tag = whole; sure = true }
want (r ∷ rs) [] = record { more = zero; tag = damage ended; sure = false }
want (r ∷ rs) (x ∷ xs) = cond (within r x) (longer (want rs xs)) (record { more = zero; tag = damage stopped; sure = true })

-- the ranges that a sequence wants behind the element that begins it, if there is a row for it
abbrev pub wanted_behind : List Row → ℕ → Option (List Range)
wanted_behind [] x = none
wanted_behind (w ∷ ws) x = cond (within w.lead x) (some w.later) (wanted_behind ws x)

-- an element that begins no row is damage by itself, of a cause of its own
abbrev pub lone : ℕ → Look Kind
lone c = record { more = zero; tag = damage c; sure = true }

abbrev pub follow : ℕ → Option (List Range) → List ℕ → Look Kind
follow c none xs = lone c
follow c (some rs) xs = want rs xs

-- THE READER OF A TABLE, which is told the cause of each lone element
abbrev pub read : List Row → (ℕ → ℕ) → Reader Kind
read rows cause x xs = follow (cause x) (wanted_behind rows x) xs
