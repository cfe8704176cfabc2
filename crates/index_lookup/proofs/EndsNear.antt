-- A lookup in a text's index ends near its start: from the checkpoint chosen to the place found are fewer bytes than the
-- spacing and one segment have.
use mathlib.Core.Path.{◌≡◌}
use Prim.Native.Nat.{ℕ, ◌+◌, ◌/◌, ◌≤◌, ◌<◌}
use native.Mathlib.Nat.{le_of_lt}
use mathlib.Core.Bool.{false}
use mathlib.Core.List.{List}
use lib.ListN.{length}
use borrow.Author.Tests.{ltb-false, leb-false}
use native.Mathlib.Omega.{arith}
use Rattle.theory.specs.Place.{at, plain}
use Rattle.theory.specs.Index.{marks}
use Rattle.theory.proofs.TrueIndexAnswers.{bytes-near, halving-near}
use Rattle.place.proofs.ReaderDivides.{reader_division, reader-top}
use Rattle.place.specs.Measures.{ruler, reader, longest}
use Rattle.place.specs.Walk.{number, measure}
use Rattle.place.specs.declared.Place.{Place}
use Rattle.place.specs.declared.Offset.{Offset}
use Rattle.place.specs.declared.Offset.TheVariants.{Byte, Unit, Point, Line}
use Rattle.place.proofs.MeasuresRise.{measured}
use Rattle.index_checkpoint.specs.Checkpoints.{spacing, checkpoint}
use Rattle.index_checkpoint.specs.Choosing.{less, halved}
use Rattle.index_lookup.specs.Agreeing.{Indexes}
use Rattle.index_lookup.proofs.AnswersAsPlain.{good}

-- fewer bytes from checkpoint j than the spacing and one segment have
abbrev pub Near : List ℕ → ℕ → Place → Type 0
Near row j p = p.bytes < (checkpoint row j).bytes + (spacing + longest)

-- a count that fails the test is the offset or more
fails : (to : Offset) (c : ℕ) → less to c (number to) ≡ false → number to ≤ c
fails (Byte n) c f = le_of_lt (leb-false c n.0 f)
fails (Unit n) c f = le_of_lt (leb-false c n.0 f)
fails (Point n) c f = le_of_lt (leb-false c n.0 f)
fails (Line n) c f = ltb-false c n.0 f

module _ (row text : List ℕ) (e : Indexes row text) where
  -- BY BYTES, where division chooses
  pub near_byte : (o : ℕ) (p : Place) → plain reader ruler (λ q. q.bytes) o text ≡ at p → Near row (o / spacing) p
  near_byte = bytes-near reader_division measured longest spacing (omega arith) reader-top text (checkpoint row) (good row text e)

  -- BY UNITS, CODE POINTS AND LINES, where halving chooses
  pub near-halved : (to : Offset) (p : Place) → plain reader ruler (measure to) (number to) text ≡ at p
      → Near row (halved to row (marks spacing (length text))) p
  near-halved to =
      halving-near reader_division measured longest spacing (omega arith) reader-top text (checkpoint row) (good row text e) (measure to) (less to) (number to)
      (fails to)
