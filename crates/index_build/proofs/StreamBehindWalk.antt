-- The walk over the settled segments of a text: the stream behind the text is that behind the rest of it, from the place reached.
use mathlib.Core.Path.{◌≡◌, refl, sym, ap, subst, ◌∙◌}
use Prim.Native.Nat.{ℕ, ◌+◌, ◌-◌, ◌≤◌, ◌<◌}
use mathlib.Core.List.{List, ◌∷◌, foldl, foldl-append}
use lib.ListN.{length, get_or, drop, length-drop}
use lib.Seq.{drop-drop, length-sets}
use native.Mathlib.Omega.{arith}
use Rattle.theory.specs.Reader.{Parts}
use Rattle.theory.specs.Stream.{State}
use Rattle.theory.specs.Tally.{total, size}
use Rattle.theory.specs.Index.{Built, add}
use Rattle.theory.proofs.Divisions.{first-size}
use Rattle.place.proofs.ReaderDivides.{reader_division, reader-top}
use Rattle.utf8_pending.specs.Tail.{first_settled}
use Rattle.utf8_pending.proofs.SettledFirst.{settled-parts, settled-inside, settled-none, settled-some}
use Rattle.utf8_count.specs.Counts.{end_first}
use Rattle.utf8_count.proofs.LineEndsAdd.{end-few}
use Rattle.place.specs.Measures.{Tag, ruler, reader, longest}
use Rattle.place.specs.Lookup.{four_counts}
use Rattle.place.specs.Walk.{behind}
use Rattle.place.specs.declared.Place.{Place}
use Rattle.index_checkpoint.specs.Checkpoints.{spacing, width}
use Rattle.index_build.specs.declared.state.Builder.{Builder}
use Rattle.index_build.specs.Building.{closed}
use Rattle.index_build.specs.Inside.Steps.{marked, Ahead, Advances, built_of, stream_of, Walks, Walked, keeping, Closes, Stretched}
use Rattle.index_build.proofs.LoneReturn.{reader-short}
use Rattle.index_build.proofs.CheckpointPassed.{behind-fits, add_first}

-- what parts of a text leave behind
abbrev pub streamed : Built Place → Parts Tag → State (Built Place)
streamed m p = record { left = p.left; kept = foldl (add ruler four_counts width spacing) m p.done }

-- ---- the settled segment that stands first in a text

pub first-few : (text : List ℕ) → end_first text ≤ 1
first-few text = end-few (get_or text 0 0) (get_or text 1 0) (get_or text 2 0)

pub settled-few : (text : List ℕ) → (total size (first_settled reader text) ≡ 0 → ⊥) → total size (first_settled reader text) ≤ longest
settled-few text z =
    let o = settled-some reader text z in
    omega (arith, o.size_is, first-size reader_division o.head o.tail, reader-top o.head o.tail)

pub settled_add : (p : Place) (row text : List ℕ) → (total size (first_settled reader text) ≡ 0 → ⊥)
    → let q : Place = behind p (total size (first_settled reader text)) (end_first text) in
    foldl (add ruler four_counts width spacing) (built_of p row) (first_settled reader text) ≡ built_of q (marked row p q)
settled_add p row text z =
    let o = settled-some reader text z in
    let x : end_first (o.head ∷ o.tail) ≡ end_first text = ap end_first (sym o.text-is) in
    ap (foldl (add ruler four_counts width spacing) (built_of p row)) o.settled_is
    ∙ add_first p row o.head o.tail
    ∙ ap (λ (n : ℕ). let q : Place = behind p n (end_first (o.head ∷ o.tail)) in built_of q (marked row p q)) (sym o.size_is)
    ∙ ap (λ (k : ℕ). let q : Place = behind p (total size (first_settled reader text)) k in built_of q (marked row p q)) x

-- the stream goes on behind it
pub stream_next : (p : Place) (row text : List ℕ) → (total size (first_settled reader text) ≡ 0 → ⊥)
    → let q : Place = behind p (total size (first_settled reader text)) (end_first text) in
    stream_of p row text ≡ stream_of q (marked row p q) (drop (total size (first_settled reader text)) text)
stream_next p row text z =
    ap (streamed (built_of p row)) (settled-parts reader-short text)
    ∙ rw (foldl-append (add ruler four_counts width spacing) (built_of p row) (first_settled reader text), settled_add p row text z)

pub stream_end : (p : Place) (row text : List ℕ) → total size (first_settled reader text) ≡ 0 → stream_of p row text ≡ record { left = text; kept = built_of p row }
stream_end p row text z = ap (streamed (built_of p row)) (settled-none reader-short text z).1

-- ---- THE WALK has come to a place

module _ (text : List ℕ) (from : Place) (row₀ : List ℕ) where
  pub walked_start : Walks from text row₀ → Walked text from row₀ row₀ from 0
  walked_start w = record { inside = omega arith; bytes-are = omega arith; fits = w.fits; long = refl; same = refl }

  -- it goes on from the place reached
  pub walked_on : {row row' : List ℕ} {p q : Place} {at n : ℕ} → Walked text from row₀ row p at → Walked (drop at text) p row row' q n
      → Walked text from row₀ row' q (at + n)
  walked_on {at = at} {n = n} d e = record {
    inside = omega (arith, d.inside, e.inside, length-drop at text);
    bytes-are = omega (arith, d.bytes-are, e.bytes-are);
    fits = e.fits;
    long = e.long ∙ d.long;
    same = d.same ∙ e.same ∙ rw (drop-drop n at text);
  }

  -- some segments
  pub walked-stretched : {row : List ℕ} {p : Place} {at : ℕ} → Walked text from row₀ row p at → (at ≡ 0 → total size (first_settled reader text) ≡ 0)
      → Stretched text from row₀ row p
  walked-stretched {row} {p} {at} d z =
      let e : at ≡ p.bytes - from.bytes = omega (arith, d.bytes-are) in
      record {
        walked = subst (Walked text from row₀ row p) e d;
        none = λ b. z (omega (arith, d.bytes-are));
      }

  -- by some segments
  module _ {row row' : List ℕ} {p q : Place} {at : ℕ} (d : Walked text from row₀ row p at) (s : Stretched (drop at text) p row row' q) where
    stretched-is : q.bytes - from.bytes ≡ at + (q.bytes - p.bytes)
    stretched-is = omega (arith, d.bytes-are, s.walked.bytes-are)

    pub stretched-on : Walked text from row₀ row' q (q.bytes - from.bytes)
    stretched-on = rw stretched-is (walked_on d s.walked)

    pub stretched-none : q.bytes ≡ p.bytes → Walked text from row₀ row' q at × (total size (first_settled reader (drop at text)) ≡ 0)
    stretched-none e =
        let k : at + (q.bytes - p.bytes) ≡ at = omega arith in
        (subst (Walked text from row₀ row' q) k (walked_on d s.walked), s.none e)

    pub stretched-some : (q.bytes ≡ p.bytes → ⊥) → (from.bytes ≤ q.bytes) × (at < q.bytes - from.bytes)
    stretched-some n = (omega (arith, d.bytes-are, s.walked.bytes-are), omega (arith, d.bytes-are, s.walked.bytes-are, n))

  -- the rest may be walked over too
  pub walked-walks : Walks from text row₀ → {row : List ℕ} {p : Place} {at : ℕ} → Walked text from row₀ row p at → Walks p (drop at text) row
  walked-walks w {at = at} d = record {
    fits = d.fits;
    within = omega (arith, length-drop at text, d.inside, d.bytes-are, w.within);
    room = omega (arith, length-drop at text, d.inside, d.bytes-are, d.long, w.room);
  }

  module _ (w : Walks from text row₀) {row : List ℕ} {p : Place} {at : ℕ} (d : Walked text from row₀ row p at) where
    -- nothing more is settled
    pub walked_end : (taken : ℕ) (r : Builder) → total size (first_settled reader (drop at text)) ≡ 0 → r ≡ keeping (drop at text) p taken
        → Closes taken (stream_of from row₀ text) row r
    walked_end taken r z e =
        let s : stream_of from row₀ text ≡ record { left = drop at text; kept = built_of p row } = d.same ∙ stream_end p row (drop at text) z in
        record {
          state = e ∙ sym (ap (closed taken) s);
          checkpoints = sym (ap (λ (t : State (Built Place)). t.kept.row) s);
        }

    -- a segment more
    module _ (z : total size (first_settled reader (drop at text)) ≡ 0 → ⊥) where
      abbrev n : ℕ
      n = total size (first_settled reader (drop at text))

      inside-next : at + n ≤ length text
      inside-next = omega (arith, settled-inside reader-short (drop at text), length-drop at text, d.inside)

      pub walked-ahead : {ends : ℕ} → ends ≡ end_first (drop at text) → Ahead p n ends row
      walked-ahead e = record {
        fits = d.fits;
        some = omega (arith, z);
        few = settled-few (drop at text) z;
        one = rw e (first-few (drop at text));
        within = omega (arith, inside-next, d.bytes-are, w.within);
        room = omega (arith, inside-next, d.bytes-are, w.room, d.long);
      }

      pub walked_next : {ends : ℕ} {row' : List ℕ} {q : Place} → ends ≡ end_first (drop at text) → Advances p n ends row row' q
          → Walked text from row₀ row' q (at + n)
      walked_next {ends} {row'} {q} e a = record {
        inside = inside-next;
        bytes-are = rw a.place_is (omega (arith, d.bytes-are));
        fits = rw a.place_is (behind-fits p n ends row (walked-ahead e));
        long = rw (a.checkpoints, length-sets) d.long;
        same = d.same ∙ stream_next p row (drop at text) z ∙ rw (a.place_is, a.checkpoints, e, drop-drop n at text);
      }
