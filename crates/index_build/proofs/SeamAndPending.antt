-- A state that takes a piece, or ends: the seam with what is pending, and the pending bytes as one segment.
use mathlib.Core.Path.{◌≡◌, sym, ap, ◌∙◌}
use Prim.Native.Nat.{ℕ, zero, suc, ◌+◌, ◌-◌, ◌≤◌, ◌<◌}
use mathlib.Core.Bool.{true}
use mathlib.Core.List.{List, [], ◌∷◌, ◌++◌, foldl, foldl-append}
use lib.ListN.{length, get_or, take, drop, length-drop}
use lib.Seq.{sets, length-sets, length-take-le, drop-length}
use borrow.Author.Tests.{not-true}
use native.Mathlib.Omega.{arith}
use Rattle.theory.specs.Reader.{first, cut, pending}
use Rattle.theory.specs.Stream.{State}
use Rattle.theory.specs.Tally.{total, size}
use Rattle.theory.specs.Index.{Built, add}
use Rattle.theory.proofs.Divisions.{cut-nil, cut-cons, takes_all, first-size}
use Rattle.terms.specs.Limits.{most_pending}
use Rattle.place.proofs.ReaderDivides.{reader_division, reader-hold}
use Rattle.utf8_pending.specs.Tail as tail
use Rattle.utf8_pending.proofs.SeamIsFirst.{seam-pending, seam-over, seam-inside, seam-behind}
use Rattle.utf8_count.specs.Counts.{end_first}
use Rattle.place.specs.Measures.{ruler, reader}
use Rattle.place.specs.Lookup.{four_counts}
use Rattle.place.specs.Walk.{behind}
use Rattle.place.specs.declared.Place.{Place}
use Rattle.index_checkpoint.specs.Checkpoints.{spacing, width}
use Rattle.index_build.specs.State.{left, settled_place}
use Rattle.index_build.specs.declared.state.Builder.{Builder}
use Rattle.index_build.proofs.TestsAsFacts.{Sound, sound_is}
use Rattle.index_build.specs.Building.{closed, ended}
use Rattle.index_build.specs.Inside.Steps.{Fits, marked, Ahead, Advances, built_of, stream_of, joined, Walks, keeping, Closes, Granted, Seams}
use Rattle.index_build.proofs.LoneReturn.{reader-short}
use Rattle.index_build.proofs.CheckpointPassed.{behind-fits, add_first}
use Rattle.index_build.proofs.StreamBehindWalk.{streamed, first-few, settled-few, settled_add}

-- ---- the state

module _ (b : Builder) (s : Sound b) where
  pub settled-fits : Fits (settled_place b)
  settled-fits = record { lines = s.lines; points = s.points; units = s.units; within = omega (arith, s.within) }

  pub left-long : length b.held ≡ most_pending → length (left b) ≡ b.pending
  left-long t = length-take-le b.pending b.held (omega (arith, s.tail.few))

-- a row of the same length grants the same
pub granted-row : {b : Builder} {more : ℕ} {row row' : List ℕ} → length row' ≡ length row → Granted b more row → Granted b more row'
granted-row e g = record { tests = g.tests; within = g.within; room = omega (arith, e, g.room) }

-- ---- the seam, and the piece behind it

module _ (b : Builder) (piece seam row : List ℕ) (s : Seams b piece seam row) where
  passes : Sound b
  passes = sound_is b s.granted.tests

  long : length (left b) ≡ b.pending
  long = left-long b passes s.three

  abbrev taken : ℕ
  taken = total size (tail.first_settled reader seam)

  taken_is : taken ≡ total size (tail.first_settled reader (tail.four (left b) piece))
  taken_is = ap (λ (t : List ℕ). total size (tail.first_settled reader t)) s.seam-is

  -- nothing was pending: the piece is read where it lies
  module _ (none : b.pending ≡ 0) where
    pub join-walks-all : Walks (settled_place b) piece row
    join-walks-all = record {
      fits = settled-fits b passes;
      within = omega (arith, s.granted.within);
      room = omega (arith, s.granted.room);
    }

    pub join-all : stream_of (settled_place b) row piece ≡ joined b row piece
    join-all =
        let e : left b ≡ [] = rw none in
        ap (λ (t : List ℕ). stream_of (settled_place b) row (t ++ piece)) (sym e)

  -- nothing is settled: all of it is pending
  pub join-none : taken ≡ 0 → (n : ℕ) (r : Builder) → r ≡ keeping seam (settled_place b) n → Closes n (joined b row piece) row r
  join-none z n r e =
      let z' : total size (tail.first_settled reader (tail.four (left b) piece)) ≡ 0 = sym taken_is ∙ z in
      let p : joined b row piece ≡ record { left = seam; kept = built_of (settled_place b) row }
      = ap (streamed (built_of (settled_place b) row)) (seam-pending reader-short (left b) piece passes.tail.begins z') ∙ rw (← s.seam-is) in
      record { state = e ∙ sym (ap (closed n) p); checkpoints = sym (ap (λ (t : State (Built Place)). t.kept.row) p) }

  -- the segment at the seam is settled, and the piece goes on behind it
  module _ (some : taken ≡ 0 → ⊥) where
    some-four : total size (tail.first_settled reader (tail.four (left b) piece)) ≡ 0 → ⊥
    some-four z = some (taken_is ∙ z)

    pub join-over : b.pending ≤ taken
    join-over = omega (arith, seam-over reader-short (left b) piece passes.tail.begins some-four, long, taken_is)

    pub join-inside : taken - b.pending ≤ length piece
    join-inside = omega (arith, seam-inside reader-short (left b) piece passes.tail.begins some-four, long, taken_is)

    pub join-ahead : {ends : ℕ} → ends ≡ end_first seam → Ahead (settled_place b) taken ends row
    join-ahead e =
        let p = passes in
        let g = s.granted in
        record {
          fits = settled-fits b p;
          some = omega (arith, some);
          few = settled-few seam some;
          one = rw e (first-few seam);
          within = omega (arith, join-over, join-inside, p.covers, g.within);
          room = omega (arith, join-over, join-inside, p.covers, g.room);
        }

    pub join-walks : {ends : ℕ} {row' : List ℕ} {q : Place} → ends ≡ end_first seam → Advances (settled_place b) taken ends row row' q
        → Walks q (drop (taken - b.pending) piece) row'
    join-walks {ends} {row'} {q} i a =
        let p = passes in
        let g = s.granted in
        let l : length row' ≡ length row = rw (a.checkpoints, length-sets) in
        let e : q.bytes + length (drop (taken - b.pending) piece) ≡ b.taken + length piece
        = rw a.place_is (omega (arith, join-over, join-inside, p.covers, length-drop (taken - b.pending) piece)) in
        record {
          fits = rw a.place_is (behind-fits (settled_place b) taken ends row (join-ahead i));
          within = rw e g.within;
          room = rw (e, l) g.room;
        }

    pub join-behind : {ends : ℕ} {row' : List ℕ} {q : Place} → ends ≡ end_first seam → Advances (settled_place b) taken ends row row' q
        → stream_of q row' (drop (taken - b.pending) piece) ≡ joined b row piece
    join-behind {ends} {row'} {q} e a =
        let q' : Place = behind (settled_place b) taken (end_first seam) in
        let f : foldl (add ruler four_counts width spacing) (built_of (settled_place b) row) (tail.first_settled reader seam) ≡ built_of q' (marked row (settled_place b) q')
        = settled_add (settled_place b) row seam some in
        let m : joined b row piece ≡ stream_of q' (marked row (settled_place b) q') (drop (taken - b.pending) piece)
        = ap (streamed (built_of (settled_place b) row)) (seam-behind reader-short (left b) piece passes.tail.begins some-four)
        ∙ rw (← s.seam-is, long, foldl-append (add ruler four_counts width spacing) (built_of (settled_place b) row) (tail.first_settled reader seam), f) in
        sym (m ∙ rw (a.place_is, a.checkpoints, e))

-- ---- the end: what is pending is one segment

take-some : (held : List ℕ) (n : ℕ) → 0 < n → 0 < length held → take n held ≡ get_or held 0 0 ∷ take (n - 1) (drop 1 held)
take-some [] n h k = absurd (omega arith)
take-some (x ∷ xs) zero h k = absurd (omega arith)
take-some (x ∷ xs) (suc n) h k = let e : suc n - 1 ≡ n = omega arith in rw e

one-segment : (x : ℕ) (xs : List ℕ) → pending reader (x ∷ xs) ≡ true
    → (cut reader (x ∷ xs) ≡ first reader x xs ∷ []) × (size (first reader x xs) ≡ suc (length xs))
one-segment x xs p =
    let m : (reader x xs).more ≡ length xs = takes_all reader_division most_pending reader-hold x xs (not-true (reader x xs).sure p) in (
      cut-cons reader x xs ∙ ap (λ (r : List ℕ). first reader x xs ∷ cut reader r) (ap (λ (n : ℕ). drop n xs) m ∙ drop-length xs) ∙ rw cut-nil,
      first-size reader_division x xs ∙ ap suc m,
    )

module _ (b : Builder) (row : List ℕ) (s : Sound b) (three : length b.held ≡ most_pending) where
  pub end_none : b.pending ≡ 0 → sets row 0 (four_counts ruler.zeroth) ≡ (ended b row).row
  end_none z =
      let e : left b ≡ [] = rw z in
      rw (e, cut-nil)

  module _ (some : b.pending ≡ 0 → ⊥) where
    pub end-ahead : (row' : List ℕ) → length row' ≡ length row → Granted b 0 row → {ends : ℕ} → ends ≡ end_first (left b)
        → Ahead (settled_place b) b.pending ends row'
    end-ahead row' l g e = record {
      fits = settled-fits b s;
      some = omega (arith, some);
      few = omega (arith, s.tail.few);
      one = rw e (first-few (left b));
      within = omega (arith, s.covers, s.within);
      room = omega (arith, s.covers, l, g.room);
    }

    pub end-some : {ends : ℕ} {row₀ row' : List ℕ} {q : Place} → row₀ ≡ sets row 0 (four_counts ruler.zeroth) → ends ≡ end_first (left b)
        → Advances (settled_place b) b.pending ends row₀ row' q → row' ≡ (ended b row).row
    end-some {ends} {row₀} {row'} {q} r e a =
        let y : ℕ = get_or b.held 0 0 in
        let ys : List ℕ = take (b.pending - 1) (drop 1 b.held) in
        let t : left b ≡ y ∷ ys = take-some b.held b.pending (omega (arith, some)) (omega arith) in
        let o = one-segment y ys (rw t at s.tail.begins) in
        let n : size (first reader y ys) ≡ b.pending = o.1 ∙ sym (ap length t) ∙ left-long b s three in
        let f : cut reader (left b) ≡ first reader y ys ∷ [] = ap (cut reader) t ∙ o.0 in
        let k : ended b row ≡ add ruler four_counts width spacing (built_of (settled_place b) row₀) (first reader y ys) = rw (r, f) in
        let m : add ruler four_counts width spacing (built_of (settled_place b) row₀) (first reader y ys)
        ≡ built_of (behind (settled_place b) b.pending ends) (marked row₀ (settled_place b) (behind (settled_place b) b.pending ends))
        = add_first (settled_place b) row₀ y ys
        ∙ ap (λ (j : ℕ). let v : Place = behind (settled_place b) j (end_first (y ∷ ys)) in built_of v (marked row₀ (settled_place b) v)) n
        ∙ ap (λ (j : ℕ). let v : Place = behind (settled_place b) b.pending j in built_of v (marked row₀ (settled_place b) v)) (ap end_first (sym t) ∙ sym e) in
        a.checkpoints ∙ sym (ap (λ (v : Built Place). v.row) (k ∙ m))
