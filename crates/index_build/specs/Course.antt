-- A text that one caller feeds to the builder in pieces: the calls one after another, by what they promise, and what they give.
-- No contract cites these; the theorems about many calls do.
use Rattle.std.specs.Prelude.{◌≡◌, ℕ, ◌+◌, true, length, drop}
use mathlib.Core.List.{List, foldl}
use Rattle.std.proofs.lemmas.List.Edits.{sets}
use Rattle.theory.specs.Reader.{parts}
use Rattle.theory.specs.Stream.{join}
use Rattle.theory.specs.Course.{Calls, Course, course}
use Rattle.theory.specs.Index.{start_marked, build}
use Rattle.terms.specs.Told.{told_checked, is_granted}
use Rattle.place.specs.Measures.{ruler, reader}
use Rattle.place.specs.Lookup.{four_counts}
use Rattle.index_checkpoint.specs.Checkpoints.{spacing, width, needed, index_of}
use Rattle.index_lookup.specs.Agreeing.{Indexes, AsPlain}
use Rattle.index_build.specs.State.{fresh_builder, left, settled_place, sound, build_says}
use Rattle.index_build.specs.declared.state.Builder.{Builder}
use Rattle.index_build.specs.declared.state.Built as the-built
use Rattle.index_build.specs.Building.{fed, closed, Finishes}

-- what the caller has: the state, and the row that nobody else writes
pub record Caller : Type 0 where
  pub state : Builder
  pub row : List ℕ

abbrev pub starting : List ℕ → Caller
starting row = record { state = fresh_builder; row = row }

-- A FEED of a piece, by what it promises
abbrev pub feed_of : Calls Caller (List ℕ)
feed_of = record {
  grants = λ h piece. is_granted (build_says h.state (length piece) (length h.row));
  piece = λ h piece. piece;
  goes = λ h piece.
      let s = fed h.state piece h.row in
      record { state = closed (h.state.taken + length piece) s; row = s.kept.row };
}

-- THE COURSE OF SUCH CALLS from the fresh state, over a row that held these numbers
abbrev pub fed_all : List ℕ → List (List ℕ) → Course Caller
fed_all row = course feed_of (starting row)

-- WHAT HOLDS AFTER EVERY CALL, each as defined from the text that was taken; checkpoint 0 may be written yet
pub record Holds (row text : List ℕ) (h : Caller) : Type 0 where
  pub tests : sound h.state ≡ true
  pub taken : h.state.taken ≡ length text
  pub pending : left h.state ≡ (parts reader text).left
  pub place : settled_place h.state ≡ foldl ruler.step ruler.zeroth (parts reader text).done
  pub checkpoints : (start_marked ruler four_counts width spacing h.row).row
      ≡ (build ruler four_counts width spacing (start_marked ruler four_counts width spacing row) (parts reader text).done).row

-- WHAT FINISH THEN GIVES: the row's first numbers are the index of the text, whatever they were before, the later ones are
-- untouched, and the state is fresh
pub record Ends (row text row' : List ℕ) (q : the-built.Built) : Type 0 where
  pub written : row' ≡ sets row 0 (index_of text)
  pub index : Indexes row' text
  pub others : drop (needed (length text)) row' ≡ drop (needed (length text)) row
  pub state : q.state ≡ fresh_builder

-- ANY CUTTING BUILDS THE SAME INDEX: fed in any pieces, with refused calls between them, and finished
abbrev pub BuiltAsWhole : Type 0
BuiltAsWhole =
    (row : List ℕ) (pieces : List (List ℕ)) (row' : List ℕ) (q : the-built.Built)
    → let r = fed_all row pieces in
    Finishes r.caller.state r.caller.row row' q → is_granted (told_checked q.answer) ≡ true → Ends row (join r.pieces) row' q

-- THE THIRD DEMAND: an index that is built of a text in any pieces, with refused calls between them, in a buffer that held
-- anything, and finished, makes each of the four lookups answer as the plain one
abbrev pub BuiltAsPlain : Type 0
BuiltAsPlain =
    (row : List ℕ) (pieces : List (List ℕ)) (row' : List ℕ) (q : the-built.Built)
    → let r = fed_all row pieces in
    Finishes r.caller.state r.caller.row row' q → is_granted (told_checked q.answer) ≡ true → AsPlain row' (join r.pieces)
