-- A row that begins with a text's index: lookup in it answers as plain lookup.
use mathlib.Core.Path.{◌≡◌, refl, ap, ◌∙◌}
use Prim.Native.Nat.{ℕ, ◌≤◌}
use mathlib.Core.Bool.{true}
use mathlib.Core.List.{List}
use lib.ListN.{length, length-take}
use lib.Dec.{leb, ltb}
use borrow.Author.Tests.{ltb-false, le-leb}
use native.Mathlib.Omega.{arith}
use Rattle.theory.specs.Place.{Found, plain, mark}
use Rattle.theory.proofs.Cases.{split}
use Rattle.theory.proofs.Rows.{tab-length, written-fixed}
use Rattle.theory.proofs.PlacesFound.{PlaceOf, place_in, mark-place}
use Rattle.theory.proofs.TrueIndexAnswers.{True, bytes-true, rising-true, lines-true}
use Rattle.theory.proofs.BuiltIsTrue.{row-true}
use Rattle.terms.specs.Limits.{limit}
use Rattle.place.proofs.ReaderDivides.{reader_division, reader-top}
use Rattle.place.specs.Measures.{ruler, reader, longest}
use Rattle.place.specs.Lookup.{four_counts, found_says, lookup_says}
use Rattle.place.specs.Walk.{fair}
use Rattle.place.specs.declared.Place.{Place}
use Rattle.place.proofs.MeasuresRise.{measured, ordered, Rising, units_rise, points_rise, lines_never_fall}
use Rattle.index_checkpoint.specs.Checkpoints.{spacing, width, needed, place_of, index_of, checkpoint}
use Rattle.index_lookup.specs.Looking.{indexed, halving_says}
use Rattle.index_lookup.specs.Agreeing.{Indexes, AsPlain}
use Rattle.index_lookup.proofs.FromCheckpoint.{indexed-on}

-- the counts of a place of a text within the limit are fair
pub fair-place : (text : List ℕ) → length text ≤ limit → {q : Place} → PlaceOf reader ruler text q → fair q ≡ true
fair-place text h {q} b =
    let o = ordered text b in
    let i : q.bytes ≤ length text = place_in reader measured text b in
    rw (le-leb q.units limit (omega arith), le-leb q.points limit (omega arith), le-leb q.lines limit (omega arith))

module _ (row text : List ℕ) (e : Indexes row text) where
  long : length (index_of text) ≡ needed (length text)
  long = rw (written-fixed four_counts width (λ p. refl), tab-length)

  room : needed (length text) ≤ length row
  room = omega (arith, length-take (needed (length text)) row, ap length e, long)

  pub good : True reader ruler spacing (checkpoint row) text
  good = row-true measured four_counts width spacing (omega arith) (λ p. refl) place_of (λ p. refl) reader row text e

  fine : length text ≤ limit → (most : ℕ) → fair (mark reader ruler most text) ≡ true
  fine h most = fair-place text h (mark-place reader ruler text most)

  says : (found : Found Place) (m : Place → ℕ) (o : ℕ) → (length text ≤ limit → found ≡ plain reader ruler m o text)
      → indexed text row (found_says found) ≡ lookup_says m o text
  says found m o f = split (ltb limit (length text))
      (λ t. rw t)
      (λ t.
      let h : length text ≤ limit = ltb-false limit (length text) t in
      indexed-on text row (found_says found) h room ∙ ap found_says (f h) ∙ rw t)

  -- A TRUE INDEX ANSWERS AS PLAIN LOOKUP
  pub as_plain : AsPlain row text
  as_plain = record {
    bytes = λ o. says _ (λ p. p.bytes) o (λ h. bytes-true reader_division measured longest spacing fair reader-top text (fine h) (checkpoint row) good o);
    units = risen (λ p. p.units) units_rise;
    points = risen (λ p. p.points) points_rise;
    lines = λ o.
        says _ (λ p. p.lines) o
        (λ h. lines-true reader_division measured longest spacing fair reader-top text (fine h) (checkpoint row) good (λ p. p.lines) lines_never_fall refl o);
  }
    where
      risen : (m : Place → ℕ) → Rising m → (o : ℕ) → halving_says m leb o text row ≡ lookup_says m o text
      risen m r o =
          says _ m o (λ h. rising-true reader_division measured longest spacing fair reader-top text (fine h) (checkpoint row) good m r.rises r.none o)
