-- What the builder's steps promise each other: the checkpoint between two places, the settled segments of a text, and a call.
use Rattle.std.specs.Prelude.{◌≡◌, ℕ, ◌+◌, ◌-◌, ◌*◌, ◌≤◌, ◌<◌, Bool, true, cond, ◌&&◌, List, [], ◌∷◌, length, drop, leb, eqb}
use Rattle.std.proofs.lemmas.List.Edits.{sets}
use Rattle.theory.specs.Stream.{State}
use Rattle.theory.specs.Stream as stream
use Rattle.theory.specs.Tally.{written, total, size}
use Rattle.theory.specs.Index.{Built, tab, marks, add}
use Rattle.terms.specs.Limits.{limit, most_pending}
use Rattle.terms.specs.declared.First.{First}
use Rattle.utf8_pending.specs.Tail.{first_settled, settled_size, four}
use Rattle.place.specs.Lines.{waits_behind}
use Rattle.place.specs.Measures.{ruler, reader, longest}
use Rattle.place.specs.Walk.{behind}
use Rattle.place.specs.Lookup.{four_counts}
use Rattle.place.specs.declared.Place.{Place}
use Rattle.index_checkpoint.specs.Checkpoints.{spacing, width, needed}
use Rattle.index_build.specs.State.{left, settled_place, sound}
use Rattle.index_build.specs.declared.state.Builder.{Builder}
use Rattle.index_build.specs.Building.{fed, closed}

-- ---- one checkpoint, and one segment

-- no count is more than the bytes, which are within the limit
pub record Fits (p : Place) : Type 0 where
  pub lines : p.lines ≤ p.points
  pub points : p.points ≤ p.units
  pub units : p.units ≤ p.bytes
  pub within : p.bytes ≤ limit

-- the checkpoints above p and not above q, the next place behind it
abbrev pub passed : Place → Place → List Place
passed p q =
    let old = marks spacing p.bytes in
    let new = marks spacing q.bytes in
    tab old (new - old) (λ k. cond (leb q.bytes (spacing * k)) q p)

abbrev pub marked : List ℕ → Place → Place → List ℕ
marked row p q = sets row (width * marks spacing p.bytes) (written four_counts (passed p q))

pub record Ahead (p : Place) (size ends : ℕ) (row : List ℕ) : Type 0 where
  pub fits : Fits p
  pub some : 0 < size
  pub few : size ≤ longest
  pub one : ends ≤ 1
  pub within : p.bytes + size ≤ limit
  pub room : needed (p.bytes + size) ≤ length row

pub record Advances (p : Place) (size ends : ℕ) (row row' : List ℕ) (r : Place) : Type 0 where
  pub place_is : r ≡ behind p size ends
  pub checkpoints : row' ≡ marked row p (behind p size ends)

-- ---- the settled segments of a text

abbrev pub built_of : Place → List ℕ → Built Place
built_of p row = record { place = p; row = row }

-- the stream behind a text that is given from a place on
abbrev pub stream_of : Place → List ℕ → List ℕ → State (Built Place)
stream_of from row text = stream.after reader (add ruler four_counts width spacing) (built_of from row) text

abbrev pub joined : Builder → List ℕ → List ℕ → State (Built Place)
joined b row piece = stream.feed reader (add ruler four_counts width spacing) (record { left = left b; kept = built_of (settled_place b) row }) piece

pub record Walks (from : Place) (text row : List ℕ) : Type 0 where
  pub fits : Fits from
  pub within : from.bytes + length text ≤ limit
  pub room : needed (from.bytes + length text) ≤ length row

-- how many bytes of a text are settled by the segment that is told to stand first in it: not the one of a lone 0D
abbrev pub settled_by : List ℕ → First → ℕ
settled_by text seg = cond (eqb (settled_size seg) 1 && waits_behind text []) 0 (settled_size seg)

-- nothing of a text is settled, as it is empty or a lone 0D
abbrev pub is_left : List ℕ → Bool
is_left [] = true
is_left (x ∷ xs) = waits_behind (x ∷ xs) []

-- the first bytes of a text were walked over: the stream behind it is that behind the rest, from the place reached
pub record Walked (text : List ℕ) (from : Place) (row₀ row : List ℕ) (p : Place) (at : ℕ) : Type 0 where
  pub inside : at ≤ length text
  pub bytes-are : p.bytes ≡ from.bytes + at
  pub fits : Fits p
  pub long : length row ≡ length row₀
  pub same : stream_of from row₀ text ≡ stream_of p row (drop at text)

-- at most so many settled segments
pub record Stretches (from : Place) (text : List ℕ) (most : ℕ) (row : List ℕ) : Type 0 where
  pub walks : Walks from text row
  pub some : 0 < most

-- none is passed only where none is settled
pub record Stretched (text : List ℕ) (from : Place) (row row' : List ℕ) (p : Place) : Type 0 where
  pub walked : Walked text from row row' p (p.bytes - from.bytes)
  pub none : p.bytes ≡ from.bytes → total size (first_settled reader text) ≡ 0

-- the state that keeps what is left behind a place
abbrev pub keeping : List ℕ → Place → ℕ → Builder
keeping rest p taken = closed taken (record { left = rest; kept = built_of p rest })

-- what a stream leaves in the state and in the row
pub record Closes (taken : ℕ) (s : State (Built Place)) (row' : List ℕ) (r : Builder) : Type 0 where
  pub state : r ≡ closed taken s
  pub checkpoints : row' ≡ s.kept.row

-- ---- a call that is granted

pub record Granted (b : Builder) (more : ℕ) (row : List ℕ) : Type 0 where
  pub tests : sound b ≡ true
  pub within : b.taken + more ≤ limit
  pub room : needed (b.taken + more) ≤ length row

-- with the seam of what is pending and the piece
pub record Seams (b : Builder) (piece seam row : List ℕ) : Type 0 where
  pub granted : Granted b (length piece) row
  pub three : length b.held ≡ most_pending
  pub seam-is : seam ≡ four (left b) piece

abbrev pub grown : Builder → List ℕ → List ℕ → List ℕ → Builder → Type 0
grown b piece row row' r = Closes (b.taken + length piece) (fed b piece row) row' r
