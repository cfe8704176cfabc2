-- Many calls by one caller: the cutting of the text does not matter, the state always passes its tests, and lookup by what is
-- built answers as plain lookup.
use mathlib.Core.Path.{◌≡◌, refl, sym, ap, ap₂, ◌∙◌}
use Prim.Native.Nat.{ℕ, ◌+◌, ◌-◌, ◌≤◌, ◌<◌}
use native.Mathlib.Nat.{zero-add}
use mathlib.Core.Bool.{Bool, true, cond}
use mathlib.Core.List.{List, [], ◌∷◌, ◌++◌, foldl}
use lib.ListN.{length, take, drop, length-append}
use lib.Seq.{sets, length-sets, take_at, drop_at}
use native.Mathlib.Omega.{arith}
use Rattle.theory.specs.Reader.{cut, parts}
use Rattle.theory.specs.Stream.{join, State, after, feed, fresh}
use Rattle.theory.specs.Course.{Course, called}
use Rattle.theory.specs.Index.{Built, add, start_marked, build}
use Rattle.theory.proofs.AnyCalls.{course-keeps, Follows, follows-start}
use Rattle.theory.proofs.Cases.{either}
use Rattle.theory.proofs.Divisions.{cut_parts, parts-size}
use Rattle.theory.proofs.PieceMore.{feed-after, after-nil}
use Rattle.theory.proofs.PlacesFound.{bytes-foldl}
use Rattle.theory.proofs.Rows.{sets-start, tab-length, written-fixed}
use Rattle.theory.proofs.BuiltIsTrue.{build-again, built-so-far, built-at-end}
use Rattle.terms.specs.Limits.{limit}
use Rattle.terms.specs.Told.{told_checked, is_granted, if_granted}
use Rattle.place.proofs.ReaderDivides.{reader_division}
use Rattle.utf8_pending.proofs.SettledFirst.{left-kept, left-tail}
use Rattle.place.specs.Measures.{place, ruler, reader}
use Rattle.place.specs.Lookup.{four_counts}
use Rattle.place.specs.declared.Place.{Place}
use Rattle.place.proofs.MeasuresRise.{measured, Ordered, ordered}
use Rattle.index_checkpoint.specs.Checkpoints.{spacing, width, needed, index_of}
use Rattle.index_lookup.proofs.AnswersAsPlain.{as_plain}
use Rattle.index_build.specs.State.{fresh_builder, left, settled_place, sound, build_says}
use Rattle.index_build.specs.declared.state.Builder.{Builder}
use Rattle.index_build.specs.declared.state.Built as the-built
use Rattle.index_build.proofs.LoneReturn.{reader-short}
use Rattle.index_build.proofs.TestsAsFacts.{is_sound}
use Rattle.index_build.proofs.ChecksInOrder.{says-done}
use Rattle.index_build.specs.Building.{opened, fed, ended, closed, Feeds, Finishes}
use Rattle.index_build.specs.Course.{Caller, starting, feed_of, fed_all, Holds, Ends, BuiltAsWhole, BuiltAsPlain}
use Rattle.index_build.proofs.GrantedOrRefused.{says-granted}

spaced : 0 < spacing
spaced = omega arith

-- ---- the stream of a text over a row, and the state that it leaves

module _ (row : List ℕ) where
  abbrev start : Built Place
  start = start_marked ruler four_counts width spacing row

  abbrev stream_of : List ℕ → State (Built Place)
  stream_of = after reader (add ruler four_counts width spacing) start

  abbrev state_of : List ℕ → Builder
  state_of text = closed (length text) (stream_of text)

  module _ (text : List ℕ) where
    kept-is : (stream_of text).kept ≡ build ruler four_counts width spacing start (parts reader text).done
    kept-is = built-so-far measured four_counts width spacing spaced (λ p. refl) reader_division row text (stream_of text) refl

    abbrev at : Place
    at = (stream_of text).kept.place

    place_is : at ≡ foldl ruler.step ruler.zeroth (parts reader text).done
    place_is = ap (λ (t : Built Place). t.place) kept-is

    bytes-are : at.bytes + length (parts reader text).left ≡ length text
    bytes-are =
        rw (place_is, bytes-foldl measured ruler.zeroth (parts reader text).done, zero-add) (parts-size reader text)

    -- it is the last settled place
    settled_is : settled_place (state_of text) ≡ at
    settled_is =
        let e : length text - length (parts reader text).left ≡ at.bytes = omega (arith, bytes-are) in
        ap (λ (n : ℕ). place n at.units at.points at.lines) e

    left_is : left (state_of text) ≡ (parts reader text).left
    left_is = left-kept reader-short text

    in_order : Ordered at
    in_order = ordered text (record {
      front = (parts reader text).done;
      behind = cut reader (parts reader text).left;
      joined = cut_parts reader text;
      place = place_is;
    })

    -- the state passes its tests
    state-sound : length text ≤ limit → sound (state_of text) ≡ true
    state-sound within =
        let o = in_order in
        is_sound (state_of text) (record {
          tail = left-tail reader-short text;
          within = within;
          covers = omega (arith, bytes-are);
          lines = o.lines;
          points = o.points;
          units = omega (arith, bytes-are, o.units);
        })

    -- and with a row on which checkpoint 0 may be written yet it opens this stream again
    opened-is : (now : List ℕ) → (start_marked ruler four_counts width spacing now).row ≡ (stream_of text).kept.row → opened (state_of text) now ≡ stream_of text
    opened-is now e = λ i. record { left = left_is i; kept = record { place = settled_is i; row = e i } }

    again : (start_marked ruler four_counts width spacing (stream_of text).kept.row).row ≡ (stream_of text).kept.row
    again = rw kept-is (build-again measured four_counts width spacing spaced (λ p. refl) ruler.zeroth row (parts reader text).done)

    row-long : length (stream_of text).kept.row ≡ length row
    row-long = rw kept-is (simp length-sets)

    -- the index stands at the start of a row that is long enough
    index-long : length (index_of text) ≡ needed (length text)
    index-long = rw (written-fixed four_counts width (λ p. refl), tab-length)

    finished_as : needed (length text) ≤ length row → sets row 0 (index_of text) ≡ index_of text ++ drop (needed (length text)) row
    finished_as h =
        let l : length (index_of text) ≤ length row = omega (arith, index-long) in
        sets-start row (index_of text) l ∙ ap (λ (n : ℕ). index_of text ++ drop n row) index-long

-- ---- the course of the calls

-- the stream that the caller's things stand for
abbrev reads : Caller → State (Built Place)
reads h = opened h.state h.row

module _ (row : List ℕ) where
  -- WHAT EVERY GRANTED CALL KEEPS: the stream of the text that was taken, and the state that it leaves
  pub record Keeps (text : List ℕ) (h : Caller) : Type 0 where
    pub follows : Follows reader_division (add ruler four_counts width spacing) (start row) reads text h
    pub within : length text ≤ limit
    pub state-is : h.state ≡ state_of row text
    pub long : length h.row ≡ length row

  keeps-start : Keeps [] (starting row)
  keeps-start =
      let e : stream_of row [] ≡ fresh (start row) = after-nil reader_division (add ruler four_counts width spacing) (start row) in
      record {
        follows = follows-start reader_division (add ruler four_counts width spacing) (start row) reads (starting row) refl;
        within = omega arith;
        state-is = sym (ap (closed 0) e);
        long = refl;
      }

  keeps-next : (text : List ℕ) (h : Caller) (piece : List ℕ) → feed_of.grants h piece ≡ true → Keeps text h → Keeps (text ++ piece) (feed_of.goes h piece)
  keeps-next text h piece g k =
      let fed-is : fed h.state piece h.row ≡ stream_of row (text ++ piece)
      = ap (λ (s : State (Built Place)). feed reader (add ruler four_counts width spacing) s piece) k.follows
      ∙ feed-after reader_division (add ruler four_counts width spacing) (start row) text piece in
      let t : h.state.taken ≡ length text = ap (λ (b : Builder). b.taken) k.state-is in
      let n : h.state.taken + length piece ≡ length (text ++ piece) = omega (arith, t, length-append text piece) in
      let s : (feed_of.goes h piece).state ≡ state_of row (text ++ piece) = ap₂ closed n fed-is in
      let r : (feed_of.goes h piece).row ≡ (stream_of row (text ++ piece)).kept.row = ap (λ (s : State (Built Place)). s.kept.row) fed-is in
      record {
        follows = ap₂ opened s r ∙ opened-is row (text ++ piece) (stream_of row (text ++ piece)).kept.row (again row (text ++ piece));
        within = rw (← n) (says-granted h.state (length piece) h.row g).within;
        state-is = s;
        long = ap length r ∙ row-long row (text ++ piece);
      }

  pub keeps : (pieces : List (List ℕ)) → Keeps (join (fed_all row pieces).pieces) (fed_all row pieces).caller
  keeps pieces = course-keeps feed_of Keeps keeps-next (starting row) keeps-start pieces

  module _ (text : List ℕ) (h : Caller) (k : Keeps text h) where
    -- AFTER EVERY CALL the state is the one of the joined text, and passes its tests
    pub keeps-holds : Holds row text h
    keeps-holds = record {
      tests = rw k.state-is (state-sound row text k.within);
      taken = rw k.state-is;
      pending = rw k.state-is (left_is row text);
      place = rw k.state-is (settled_is row text ∙ place_is row text);
      checkpoints = ap (λ (s : State (Built Place)). s.kept.row) k.follows ∙ ap (λ (m : Built Place). m.row) (kept-is row text);
    }

    -- A CALL IS GRANTED exactly where the text stays within the limit and the row is long enough
    pub keeps-granted : (piece : List ℕ) → length text + length piece ≤ limit → needed (length text + length piece) ≤ length row
        → build_says h.state (length piece) (length h.row) ≡ 0 ∷ []
    keeps-granted piece w n =
        let o = keeps-holds in
        sym (says-done h.state (length piece) (length h.row) o.tests (rw o.taken w) (rw (o.taken, k.long) n))

    -- AND AT THE END the row holds the index of the text
    pub keeps-ends : (row' : List ℕ) (q : the-built.Built) → Finishes h.state h.row row' q → is_granted (told_checked q.answer) ≡ true → Ends row text row' q
    keeps-ends row' q f a =
        let g : is_granted (build_says h.state 0 (length h.row)) ≡ true = rw f.answer at a in
        let n : needed (length text) ≤ length row = omega (arith, (says-granted h.state 0 h.row g).room, keeps-holds.taken, k.long) in
        let w : row' ≡ sets row 0 (index_of text)
        = f.checkpoints
        ∙ ap (λ (b : Bool). cond b (ended h.state h.row).row h.row) g
        ∙ built-at-end measured four_counts width spacing spaced (λ p. refl) reader_division row text (reads h) k.follows in
        let v : row' ≡ index_of text ++ drop (needed (length text)) row = w ∙ finished_as row text n in
        record {
          written = w;
          index = ap (take (needed (length text))) v ∙ take_at (index_of text) (drop (needed (length text)) row) (needed (length text)) (index-long row text);
          others = ap (drop (needed (length text))) v ∙ drop_at (index_of text) (drop (needed (length text)) row) (needed (length text)) (index-long row text);
          state = f.state ∙ ap (λ (b : Bool). cond b fresh_builder h.state) g;
        }

-- ANY CUTTING BUILDS THE SAME INDEX, whatever the row held before
pub built_as_whole : BuiltAsWhole
built_as_whole row pieces row' q f a = keeps-ends row _ _ (keeps row pieces) row' q f a

-- AND LOOKUP BY IT ANSWERS AS PLAIN LOOKUP
pub built_as_plain : BuiltAsPlain
built_as_plain row pieces row' q f a = as_plain row' _ (built_as_whole row pieces row' q f a).index

-- ---- THE CALLS THEMSELVES GO THIS COURSE: whatever a feed answers, and leaves in the row

pub feeds_called : (r : Course Caller) (piece row' : List ℕ) (q : the-built.Built) → Feeds r.caller.state piece r.caller.row row' q
    → called feed_of r piece
    ≡ if_granted (told_checked q.answer) (record { caller = record { state = q.state; row = row' }; pieces = r.pieces ++ piece ∷ [] }) r
feeds_called r piece row' q h =
    let new = feed_of.goes r.caller piece in
    rw (h.answer, h.state, h.checkpoints)
    (either (λ (state : Builder) (row : List ℕ). record { caller = record { state = state; row = row }; pieces = r.pieces ++ piece ∷ [] })
    (feed_of.grants r.caller piece) r r.caller.state new.state r.caller.row new.row)
