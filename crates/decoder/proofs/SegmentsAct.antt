-- Segments act: one run of them behind another does what the log of both says, and what is enough for both is enough for each.
use mathlib.Core.Path.{◌≡◌, refl, sym, ap, ◌∙◌}
use Prim.Native.Nat.{ℕ, ◌+◌, ◌-◌, ◌≤◌}
use native.Mathlib.Nat.{add-zero}
use mathlib.Core.List.{List, [], ◌∷◌, ◌++◌, foldl, foldl-append, append_assoc, append-nil}
use lib.ListN.{length, take, drop, length-append, length-drop, take-append-drop}
use lib.Seq.{drop-drop, take_at, drop_at, length-take-le, length-sets}
use native.Mathlib.Omega.{arith}
use Rattle.theory.specs.Reader.{Segment}
use Rattle.theory.specs.Table.{Kind, whole, damage, is_damage}
use Rattle.theory.specs.Tally.{total, size, whole_of, damaged_of, count_of, Log}
use Rattle.theory.proofs.Divisions.{total_append}
use Rattle.theory.proofs.TalliesAdd.{whole-damaged, count-damaged, store_is, logged, log_is}
use Rattle.terms.specs.Form.{mend}
use Rattle.terms.specs.Limits.{entry_width}
use Rattle.terms.proofs.WalkBySegments.{part_is}
use Rattle.terms.proofs.WalkWrites.{lent, back, back_is}
use Rattle.utf8.specs.Scalar.{utf8}
use Rattle.decoder_shared.specs.Decoding.{numbers}
use Rattle.decoder_shared.specs.Inside.Steps.{segment_of}
use Rattle.decoder.specs.State.{act}
use Rattle.decoder.specs.Inside.Acting.{need, Work, work, log_of, reached, Ready, acted, passed, mended}
use Rattle.decoder_shared.specs.Inside.Tallying as tallying
use Rattle.decoder_shared.specs.declared.tally.Tally.{Tally}
use Rattle.decoder.specs.declared.repair.Repair.{Repair}
use Rattle.decoder.proofs.SettledPlaces.{need_append}

-- ---- what a log leaves of an output

-- behind what stands in front the output is as it was
drop-over : (front out : List ℕ) (n : ℕ) → length front ≤ n → drop n (front ++ drop (length front) out) ≡ drop n out
drop-over front out n h =
    let i : ℕ = length front in
    let e : i + (n - i) ≡ n = omega arith in
    rw (← e, ← drop-drop (n - i) i (front ++ drop i out), drop_at front (drop i out) i refl, drop-drop)

module _ (out : List ℕ) (l : Log) where
  reached-log : log_of (reached out l) ≡ l
  reached-log = rw (take_at l.out (drop (length l.out) out) (length l.out) refl)

  reached-over : (m : Log) → length l.out ≤ length m.out → reached (reached out l).out m ≡ reached out m
  reached-over m h = rw (drop-over l.out out (length m.out) h)

  reached-long : length l.out ≤ length out → length (reached out l).out ≡ length out
  reached-long h = length-append l.out _ ∙ rw (length-drop) (omega arith)

-- ---- segments, one run behind another

module _ (room : ℕ) where
  logs-is : (l : Log) (ss : List (Segment Kind)) → foldl (act room) l ss ≡ logged is_damage (mend utf8) numbers entry_width room l ss
  logs-is = log_is is_damage (mend utf8) numbers entry_width room

  pub logs-long : (l : Log) (ss : List (Segment Kind)) → length (foldl (act room) l ss).out ≡ length l.out + need ss
  logs-long l ss = ap (λ (m : Log). length m.out) (logs-is l ss) ∙ length-append l.out _

  pub acted-append : (ss ts : List (Segment Kind)) (w : Work) → acted room ts (acted room ss w) ≡ acted room (ss ++ ts) w
  acted-append ss ts w =
      let l : Log = foldl (act room) (log_of w) ss in
      ap (λ (m : Log). reached (acted room ss w).out (foldl (act room) m ts)) (reached-log w.out l)
      ∙ reached-over w.out l (foldl (act room) l ts) (omega (arith, logs-long l ts))
      ∙ ap (reached w.out) (sym (foldl-append _ (log_of w) ss ts))

  pub acted-none : (w : Work) → w.written ≤ length w.out → w ≡ acted room [] w
  acted-none w h = rw (length-take-le w.written w.out h, take-append-drop w.written w.out)

  module _ (ss ts : List (Segment Kind)) (w : Work) (r : Ready room (ss ++ ts) w) where
    pub ready-front : Ready room ss w
    ready-front = record {
      enough = omega (arith, r.enough, need_append ss ts);
      row = r.row;
      sums = omega (arith, r.sums, total_append size ss ts);
      counts = r.counts;
    }

    pub ready-behind : Ready room ts (acted room ss w)
    ready-behind =
        let l : Log = foldl (act room) (log_of w) ss in
        let e = logs-is (log_of w) ss in
        let n : length l.out ≡ w.written + need ss
        = logs-long (log_of w) ss ∙ rw (length-take-le w.written w.out (omega (arith, r.enough))) in
        let long : length l.out ≤ length w.out = omega (arith, n, r.enough, need_append ss ts) in
        let row : length l.list ≡ length w.list
        = ap (λ (m : Log). length m.list) e ∙ rw (store_is numbers entry_width room (λ e. refl), length-sets) in
        let d : l.damaged ≡ w.tally.damaged + total (damaged_of is_damage) ss = ap (λ (m : Log). m.damaged) e in
        let k : l.whole ≡ w.tally.whole + total (whole_of is_damage) ss = ap (λ (m : Log). m.whole) e in
        let i : l.count ≡ w.tally.count + total (count_of is_damage) ss = ap (λ (m : Log). m.count) e in
        record {
          enough = omega (arith, r.enough, need_append ss ts, n, reached-long w.out l long);
          row = omega (arith, r.row, row);
          sums = omega (arith, r.sums, total_append size ss ts, d, k, whole-damaged is_damage ss);
          counts = omega (arith, r.counts, d, i, count-damaged is_damage ss);
        }

  -- ---- one segment

  pub passed-acts : (run : List ℕ) (l : Log) → passed run l ≡ foldl (act room) l (segment_of whole run)
  passed-acts [] l = simp (add-zero, append-nil)
  passed-acts (x ∷ xs) l = simp add-zero

  pub mended-acts : (n c : ℕ) (run : List ℕ) → n ≡ total size (segment_of (damage c) run) → 3 ≡ need (segment_of (damage c) run) → (l : Log)
      → mended room n c l ≡ foldl (act room) l (segment_of (damage c) run)
  mended-acts n c [] e k l = absurd (omega arith)
  mended-acts n c (x ∷ xs) e k l = rw e (simp add-zero)

-- no bytes do nothing
pub passed_none : (run : List ℕ) → length run ≡ 0 → (w : Work) → w.written ≤ length w.out → w ≡ reached w.out (passed run (log_of w))
passed_none [] e w h = simp (add-zero, append-nil, length-take-le w.written w.out h, take-append-drop w.written w.out)
passed_none (x ∷ xs) e w h = absurd (omega arith)

-- so much was written behind what stood in the output
module _ (t : Repair) (out vs ys : List ℕ) (h : t.written + length vs ≤ length out) (e : ys ≡ vs ++ drop (length vs) (lent out t.written)) where
  put-long : t.written + length vs ≡ length (take t.written out ++ vs)
  put-long = sym (length-append (take t.written out) vs ∙ rw (length-take-le t.written out (omega arith)))

  put_is : back out t.written ys ≡ (take t.written out ++ vs) ++ drop (length (take t.written out ++ vs)) out
  put_is =
      back_is out t.written ys
      ∙ rw (e, part_is out t.written, drop-drop (length vs) t.written out, ← put-long)
      (sym (append_assoc (take t.written out) vs (drop (t.written + length vs) out)))

  -- it is what a log leaves, that has the totals and the list of another in which nothing is written
  pub put-as : (s : Tally) (list' : List ℕ) (m : Log) → tallying.log_of s list' ≡ m
      → work (record { tally = s; written = t.written + length vs }) (back out t.written ys) list'
      ≡ reached out (record { whole = m.whole; damaged = m.damaged; count = m.count; out = take t.written out ++ vs; list = m.list })
  put-as s list' m f =
      λ j.
      let l = f j in
      record {
        tally = record { whole = l.whole; damaged = l.damaged; count = l.count };
        written = put-long j;
        out = put_is j;
        list = l.list;
      }

-- there are places for it in the part of the output that is lent
pub put-lent : (out : List ℕ) (i n : ℕ) → i + n ≤ length out → n ≤ length (lent out i)
put-lent out i n h = rw (part_is out i, length-drop i out) (omega arith)
