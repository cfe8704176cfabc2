-- One segment: the place behind it, and the checkpoint that it passes.
use mathlib.Core.Path.{◌≡◌, ap, ◌∙◌}
use Prim.Native.Nat.{ℕ, ◌+◌, ◌-◌, ◌*◌, ◌/◌, ◌%◌, ◌^◌, ◌≤◌, ◌<◌}
use mathlib.Core.List.{List, ◌∷◌}
use lib.ListN.{length}
use lib.Seq.{sets}
use lib.Dec.{eqb}
use borrow.Author.Tests.{eqb-true, eqb-false, le-leb, lt-leb, lt-ltb, le-ltb}
use native.Mathlib.Omega.{arith}
use Rattle.theory.specs.Reader.{first}
use Rattle.theory.specs.Index.{marks, add}
use Rattle.theory.specs.Tally.{size}
use Rattle.theory.proofs.Cases.{split, under}
use Rattle.utf8_count.specs.Counts.{end_first}
use Rattle.place.specs.Measures.{ruler, reader}
use Rattle.place.specs.Walk.{behind, units_by_size}
use Rattle.place.specs.Lookup.{four_counts}
use Rattle.place.specs.declared.Place.{Place}
use Rattle.place.proofs.MeasuresRise.{units-by-size}
use Rattle.place.proofs.LineEnds.{first_ends}
use Rattle.index_checkpoint.specs.Checkpoints.{spacing, width, needed}
use Rattle.index_checkpoint.specs.Marks.{marked_at, marked_once}
use Rattle.index_build.specs.Inside.Steps.{Fits, marked, Ahead, built_of}

-- ---- one checkpoint

-- checkpoint k has its place in the row
pub record Holds (p : Place) (k : ℕ) (row : List ℕ) : Type 0 where
  pub fits : Fits p
  pub room : width * k + width ≤ length row

pub held-marked : (p : Place) (k : ℕ) (row : List ℕ) → Holds p k row → marked_at row k p ≡ sets row (width * k) (four_counts p)
held-marked p k row h =
    let f = h.fits in
    let b : p.bytes % 2 ^ 32 ≡ p.bytes = omega (arith, f.within) in
    let u : p.units % 2 ^ 32 ≡ p.units = omega (arith, f.units, f.within) in
    let c : p.points % 2 ^ 32 ≡ p.points = omega (arith, f.points, f.units, f.within) in
    let l : p.lines % 2 ^ 32 ≡ p.lines = omega (arith, f.lines, f.points, f.units, f.within) in
    rw (lt-ltb k (length row / width) (omega (arith, h.room)), b, u, c, l)

-- ---- the checkpoint between two places: there is none, or the second place lies at it, or it lies behind it

pub record Between (p q : Place) (row : List ℕ) : Type 0 where
  pub old : Fits p
  pub new : Fits q
  pub order : p.bytes ≤ q.bytes
  pub near : q.bytes ≤ p.bytes + spacing
  pub room : needed q.bytes ≤ length row

module _ (p q : Place) (row : List ℕ) (h : Between p q row) where
  mark-none : q.bytes < spacing * (p.bytes / spacing + 1) → row ≡ marked row p q
  mark-none l =
      let z : marks spacing q.bytes - marks spacing p.bytes ≡ 0 = omega (arith, h.order) in
      rw z

  one : spacing * (p.bytes / spacing + 1) ≤ q.bytes → marks spacing q.bytes - marks spacing p.bytes ≡ 1
  one l = omega (arith, h.near)

  mark-at : q.bytes ≡ spacing * (p.bytes / spacing + 1) → sets row (width * (p.bytes / spacing + 1)) (four_counts q) ≡ marked row p q
  mark-at e =
      let l : q.bytes ≤ spacing * marks spacing p.bytes = omega arith in
      let s : p.bytes / spacing + 1 ≡ marks spacing p.bytes = omega arith in
      rw (one (omega arith), le-leb q.bytes (spacing * marks spacing p.bytes) l, s)

  mark-over : spacing * (p.bytes / spacing + 1) < q.bytes → sets row (width * (p.bytes / spacing + 1)) (four_counts p) ≡ marked row p q
  mark-over o =
      let l : spacing * marks spacing p.bytes < q.bytes = omega arith in
      let s : p.bytes / spacing + 1 ≡ marks spacing p.bytes = omega arith in
      rw (one (omega arith), lt-leb q.bytes (spacing * marks spacing p.bytes) l, s)

  pub between-marked : marked_once row p q ≡ marked row p q
  between-marked =
      let k : ℕ = p.bytes / spacing + 1 in
      under (q.bytes / spacing) k
      (λ i. rw (lt-ltb (q.bytes / spacing) k i) (mark-none (omega arith)))
      (λ i.
      let r : width * k + width ≤ length row = omega (arith, h.room) in
      split (eqb q.bytes (spacing * k))
      (λ e.
      rw (le-ltb (q.bytes / spacing) k i, e)
      (held-marked q k row (record { fits = h.new; room = r }) ∙ mark-at (eqb-true q.bytes (spacing * k) e)))
      (λ e.
      rw (le-ltb (q.bytes / spacing) k i, e)
      (held-marked p k row (record { fits = h.old; room = r }) ∙ mark-over (omega (arith, eqb-false q.bytes (spacing * k) e)))))

-- ---- the place behind a segment

pub units-few : (n : ℕ) → 0 < n → (1 ≤ units_by_size n) × (units_by_size n ≤ n)
units-few n h = split (eqb n 4) (λ e. rw e (omega (arith, eqb-true n 4 e))) (λ e. rw e (omega arith))

module _ (p : Place) (n ends : ℕ) (row : List ℕ) (a : Ahead p n ends row) where
  pub behind-fits : Fits (behind p n ends)
  behind-fits =
      let f = a.fits in
      let u = units-few n a.some in
      record {
        lines = omega (arith, f.lines, a.one);
        points = omega (arith, f.points);
        units = omega (arith, f.units);
        within = a.within;
      }

  pub behind-between : Between p (behind p n ends) row
  behind-between = record {
    old = a.fits;
    new = behind-fits;
    order = omega arith;
    near = omega (arith, a.few);
    room = a.room;
  }

-- it is what the builder's action of that segment gives
pub add_first : (p : Place) (row : List ℕ) (x : ℕ) (xs : List ℕ)
    → let q : Place = behind p (size (first reader x xs)) (end_first (x ∷ xs)) in
    add ruler four_counts width spacing (built_of p row) (first reader x xs) ≡ built_of q (marked row p q)
add_first p row x xs =
    let s = first reader x xs in
    let e : ruler.step p s ≡ behind p (size s) (end_first (x ∷ xs)) = rw (units-by-size x xs, (first_ends x xs).count) in
    ap (λ (q : Place). built_of q (marked row p q)) e
