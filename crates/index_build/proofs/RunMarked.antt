-- THE RUN has been counted as far as a byte, and the checkpoints up to there are written.
use mathlib.Core.Path.{◌≡◌, refl, sym, ap, ◌∙◌}
use Prim.Native.Nat.{ℕ, ◌+◌, ◌-◌, ◌*◌, ◌/◌, ◌%◌, ◌≤◌, ◌<◌}
use mathlib.Core.List.{List, [], ◌∷◌, ◌++◌, foldl, foldl-append}
use lib.ListN.{length, take, drop, length-drop}
use lib.Seq.{sets, length-sets, length-take-le}
use native.Mathlib.Omega.{arith}
use Rattle.theory.specs.Reader.{Segment}
use Rattle.theory.specs.Tally.{written}
use Rattle.theory.specs.Place.{last}
use Rattle.theory.specs.Index.{tab, marks, add}
use Rattle.theory.proofs.Divisions.{written-append}
use Rattle.theory.proofs.BuiltIsTrue.{build-foldl}
use Rattle.theory.proofs.TalliesAdd.{sets_append}
use Rattle.theory.proofs.Rows.{tab-length, tab-append, written-fixed}
use Rattle.utf8_count.specs.Counts.{start_of, four_of}
use Rattle.utf8_count.proofs.CountsByBlocks.{start-few, four-few, total-few}
use Rattle.utf8_count.proofs.LineEndsAdd.{ends-few}
use Rattle.place.specs.Measures.{Tag, ruler}
use Rattle.place.specs.Lookup.{four_counts}
use Rattle.place.specs.declared.Place.{Place}
use Rattle.place.proofs.MeasuresRise.{measured}
use Rattle.index_checkpoint.specs.Checkpoints.{spacing, width}
use Rattle.index_build.specs.Inside.Summed.{summed, Adds, Covers, back}
use Rattle.index_build.proofs.CountsAdd.{summed-none, summed_append, summed_same}
use Rattle.index_build.proofs.BackToBoundary.{StepsBack, steps_back}
use Rattle.index_checkpoint.specs.Marks.{marked_at}
use Rattle.index_build.specs.Inside.Steps.{built_of, Walked}
use Rattle.index_build.specs.Inside.Runs.{Runs}
use Rattle.index_build.proofs.CheckpointPassed.{Holds, held-marked}
use Rattle.index_build.proofs.RunDivided.{Bounds, Divided, settled-starts, settled-inside, run_divided}
use Rattle.index_build.proofs.StreamBehindWalk.{streamed}

-- checkpoint k, and n of them from k on
abbrev checkpoint : Place → List (Segment Tag) → ℕ → Place
checkpoint from ss k = last ruler.step ruler.bytes (spacing * k) from ss

abbrev checkpoints : Place → List (Segment Tag) → ℕ → ℕ → List ℕ
checkpoints from ss k n = written four_counts (tab k n (checkpoint from ss))

checkpoints-long : (from : Place) (ss : List (Segment Tag)) (k n : ℕ) → length (checkpoints from ss k n) ≡ width * n
checkpoints-long from ss k n = written-fixed four_counts width (λ p. refl) (tab k n (checkpoint from ss)) ∙ rw tab-length

checkpoints-next : (from : Place) (ss : List (Segment Tag)) (k n : ℕ)
    → checkpoints from ss k (n + 1) ≡ checkpoints from ss k n ++ four_counts (checkpoint from ss (k + n))
checkpoints-next from ss k n =
    ap (written four_counts) (tab-append k n 1 (checkpoint from ss))
    ∙ written-append four_counts (tab k n (checkpoint from ss)) (checkpoint from ss (k + n) ∷ [])

module _ (text : List ℕ) (run : ℕ) (from : Place) (row₀ : List ℕ) (r : Runs from text run row₀) where
  pub divided : Divided text run
  divided = run_divided text run r.settled

  there : run ≤ length text
  there = settled-inside text run r.settled

  pub record Passed (row : List ℕ) (q : Place) (at : ℕ) : Type 0 where
    pub inside : at ≤ run
    pub place_is : q ≡ summed from text at
    pub bytes-are : q.bytes ≡ from.bytes + at
    pub row_is : row ≡ sets row₀ (width * marks spacing from.bytes) (checkpoints from divided.front (marks spacing from.bytes) (marks spacing q.bytes - marks spacing from.bytes))

  pub passed_start : Passed row₀ from 0
  passed_start =
      let z : marks spacing from.bytes - marks spacing from.bytes ≡ 0 = omega arith in
      record { inside = omega arith; place_is = sym (summed-none from text); bytes-are = omega arith; row_is = rw z }

  module _ {row : List ℕ} {q : Place} {at : ℕ} (d : Passed row q at) where
    pub passed-long : length row ≡ length row₀
    passed-long = rw (d.row_is, length-sets)

    pub passed-in : at ≤ length text
    passed-in = omega (arith, d.inside, there)

    -- m bytes more can be counted
    module _ (m : ℕ) (h : at + m ≤ run) where
      pub passed-adds : Adds q (drop at text) m
      passed-adds =
          let f = r.walks.fits in
          let l : length (take at text) ≡ at = length-take-le at text passed-in in
          let s = total-few start_of start-few (take at text) in
          let u : q.units ≤ from.units + 2 * at = rw d.place_is (omega (arith, total-few four_of four-few (take at text))) in
          let c : q.points ≤ from.points + at = rw d.place_is (omega arith) in
          let e : q.lines ≤ from.lines + at = rw d.place_is (omega (arith, ends-few at text)) in
          record {
            inside = omega (arith, length-drop at text, there);
            within = omega (arith, d.bytes-are, r.walks.within, there);
            units = omega (arith, d.bytes-are, f.units);
            points = omega (arith, d.bytes-are, f.units, f.points);
            lines = omega (arith, d.bytes-are, f.units, f.points, f.lines);
          }

      summed-on : summed q (drop at text) m ≡ summed from text (at + m)
      summed-on = rw d.place_is (summed_append from text at m)

    -- as far as the next checkpoint
    module _ (h : at + (spacing - q.bytes % spacing) ≤ run) (v : Place)
        (t : v ≡ summed q (drop at text) (at + (spacing - q.bytes % spacing) - at)) where
      abbrev end : ℕ
      end = at + (spacing - q.bytes % spacing)

      there-is : v ≡ summed from text end
      there-is =
          let k : end - at ≡ spacing - q.bytes % spacing = omega arith in
          (rw k at t) ∙ summed-on (spacing - q.bytes % spacing) h

      there-bytes : v.bytes ≡ from.bytes + end
      there-bytes = ap (λ (p : Place). p.bytes) there-is

      pub passed-covers : Covers v text run end
      passed-covers = rw there-is (record {
        inside = h;
        there = there;
        first = settled-starts text run r.settled;
        bytes = omega arith;
        units = omega arith;
        points = omega arith;
        lines = omega arith;
      })

      module _ {p : Place} (b : p ≡ back text run end v) where
        stepped : StepsBack text run end v p
        stepped = rw b (steps_back text run end v passed-covers)

        -- it is the place that was stepped back to
        back_is : p ≡ summed from text stepped.start
        back_is =
            let s : ℕ = stepped.start in
            let k : s + (end - s) ≡ end = omega (arith, stepped.bounds.order) in
            summed_same p (summed from text s) (drop s text) (end - s)
            (stepped.counts ∙ there-is ∙ sym (summed_append from text s (end - s) ∙ ap (summed from text) k))

        passed-holds : Holds p (v.bytes / spacing) row
        passed-holds = record {
          fits = rw back_is (divided.fits from r.walks.fits (omega (arith, r.walks.within, there)) end stepped.start h stepped.bounds);
          room = omega (arith, passed-long, there-bytes, h, there, r.walks.room);
        }

        pub passed-next : {row' : List ℕ} → row' ≡ marked_at row (v.bytes / spacing) p → Passed row' v end
        passed-next {row'} e =
            let ss = divided.front in
            let old : ℕ = marks spacing from.bytes in
            let n : ℕ = marks spacing q.bytes - old in
            let j : ℕ = v.bytes / spacing in
            let a : marks spacing v.bytes - old ≡ n + 1 = omega (arith, there-bytes, d.bytes-are) in
            let k : old + n ≡ j = omega (arith, there-bytes, d.bytes-are) in
            let i : width * old + length (checkpoints from ss old n) ≡ width * j = omega (arith, checkpoints-long from ss old n) in
            let c : from.bytes + end ≡ spacing * j = omega (arith, there-bytes, d.bytes-are) in
            let g : p ≡ checkpoint from ss j = back_is ∙ sym (rw c at (divided.lasts from end stepped.start h stepped.bounds)) in
            let l : sets row₀ (width * old) (checkpoints from ss old (n + 1))
            ≡ sets (sets row₀ (width * old) (checkpoints from ss old n)) (width * old + length (checkpoints from ss old n))
            (four_counts (checkpoint from ss (old + n)))
            = ap (sets row₀ (width * old)) (checkpoints-next from ss old n) ∙ sets_append row₀ (width * old) (checkpoints from ss old n) _ in
            record {
              inside = h;
              place_is = there-is;
              bytes-are = there-bytes;
              row_is = e ∙ held-marked p j row passed-holds ∙ sym (rw a (l ∙ rw (i, k, ← g, ← d.row_is)));
            }

    -- and to the end
    pub passed-end : run < at + (spacing - q.bytes % spacing) → (v : Place) → v ≡ summed q (drop at text) (run - at)
        → Walked text from row₀ row v run
    passed-end h v e =
        let act = add ruler four_counts width spacing in
        let m : ℕ = run - at in
        let k : at + m ≡ run = omega (arith, d.inside) in
        let s : v ≡ summed from text run = e ∙ summed-on m (omega arith) ∙ rw k in
        let g : foldl ruler.step from divided.front ≡ v = divided.counts from ∙ sym s in
        let b : v.bytes ≡ from.bytes + run = ap (λ (p : Place). p.bytes) s in
        let n : marks spacing v.bytes ≡ marks spacing q.bytes = omega (arith, d.bytes-are) in
        let f : foldl act (built_of from row₀) divided.front ≡ built_of v row
        = build-foldl measured four_counts width spacing (omega arith) (λ p. refl) (built_of from row₀) divided.front ∙ rw (g, n, ← d.row_is) in
        record {
          inside = there;
          bytes-are = b;
          fits = rw s (divided.fits from r.walks.fits (omega (arith, r.walks.within, there)) run run (omega arith) run-bounds);
          long = passed-long;
          same = ap (streamed (built_of from row₀)) divided.parted ∙ rw (foldl-append act (built_of from row₀) divided.front, f);
        }
      where
        -- the end of the run is one of its boundaries
        run-bounds : Bounds text run run run
        run-bounds = record {
          order = omega arith;
          edge = λ i. absurd (omega arith);
          others = λ i a b c. absurd (omega arith);
          ended = λ i. refl;
        }
