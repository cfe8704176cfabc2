-- Stepping back from a byte to the boundary before it, over the bytes of a segment that is begun there.
use mathlib.Core.Path.{◌≡◌, refl, ap, subst, ◌∙◌}
use Prim.Native.Nat.{ℕ, zero, suc, ◌+◌, ◌-◌, ◌≤◌, ◌<◌}
use native.Mathlib.Numerals.{add-one}
use mathlib.Core.Bool.{true, false}
use mathlib.Core.List.{List, ◌∷◌}
use lib.ListN.{length, get_or, take, drop, length-drop, take-append-drop}
use lib.Seq.{take-add, drop-cons, drop-drop, length-take-le}
use lib.Dec.{eqb}
use borrow.Author.Tests.{eqb-true, eqb-false, le-leb, lt-leb}
use native.Mathlib.Omega.{arith}
use Rattle.theory.specs.Tally.{total}
use Rattle.theory.proofs.Cases.{split, under}
use Rattle.theory.proofs.Divisions.{total_append}
use Rattle.utf8_scan.specs.Stands.{is_later}
use Rattle.utf8_count.specs.Counts.{start_of, four_of, end_first, ends_in}
use Rattle.utf8_count.proofs.SumsOfSegments.{Laters, laters-none}
use Rattle.utf8_count.proofs.LineEndsAdd.{ends-split, ends-laters}
use Rattle.place.specs.Measures.{place}
use Rattle.place.specs.declared.Place.{Place}
use Rattle.index_build.specs.Inside.Summed.{summed, boundary, Covers, back}
use Rattle.index_build.proofs.CountsAdd.{summed-none}
use Rattle.index_build.proofs.BoundaryBefore.{Bound, boundary-bound}
use Rattle.index_build.proofs.RunDivided.{Bounds}

-- p lies at the last boundary at or before byte n of a run, and q has the counts there
pub record StepsBack (text : List ℕ) (run n : ℕ) (q p : Place) : Type 0 where
  pub start : ℕ
  pub bounds : Bounds text run n start
  pub counts : summed p (drop start text) (n - start) ≡ q

laters_of : (text : List ℕ) (m c : ℕ) → c + m ≤ length text → ((k : ℕ) → c ≤ k → k < c + m → is_later (get_or text k 0) ≡ true)
    → Laters (take m (drop c text))
laters_of text zero c h f = tt
laters_of text (suc m) c h f =
    rw (drop-cons text c 0 (omega arith)) (f c (omega arith) (omega arith), laters_of text m (suc c) (omega arith) (λ k l i. f k (omega arith) (omega arith)))

module _ (text : List ℕ) (run n b : ℕ) (t : run ≤ length text) (h : n < run) (o : Bound text n b) (l : b < n) where
  abbrev begun : List ℕ
  begun = take (n - b) (drop b text)

  begun-is : begun ≡ get_or text b 0 ∷ take (n - suc b) (drop (suc b) text)
  begun-is =
      let e : n - b ≡ suc (n - suc b) = omega arith in
      rw (e, drop-cons text b 0 (omega arith))

  others : Laters (take (n - suc b) (drop (suc b) text))
  others = laters_of text (n - suc b) (suc b) (omega arith) (λ k i j. o.others k (omega arith) (omega arith))

  -- only its first byte counts
  counts-are : (total start_of begun ≡ 1) × (total four_of begun ≡ four_of (get_or text b 0))
  counts-are =
      let z = laters-none (take (n - suc b) (drop (suc b) text)) others in
      let x : start_of (get_or text b 0) ≡ 1 = rw o.first in
      rw begun-is (omega (arith, z.0), omega (arith, z.1))

  ends-are : ends_in (n - b) (drop b text) ≡ end_first (drop b text)
  ends-are =
      let m : ℕ = n - suc b in
      let e : n - b ≡ suc m = omega arith in
      let d : drop 1 (drop b text) ≡ drop (suc b) text = drop-drop 1 b text ∙ ap (λ (k : ℕ). drop k text) (add-one b) in
      let k : length (take m (drop (suc b) text)) ≡ m = length-take-le m (drop (suc b) text) (omega (arith, length-drop (suc b) text)) in
      let z : ends_in m (drop (suc b) text) ≡ 0
      = rw (k, take-append-drop m (drop (suc b) text)) at (ends-laters (take m (drop (suc b) text)) (drop m (drop (suc b) text)) others) in
      ap (λ (j : ℕ). ends_in j (drop b text)) e ∙ omega (arith, ap (ends_in m) d, z)

  front : (f : ℕ → ℕ) → total f (take n text) ≡ total f (take b text) + total f begun
  front f =
      let e : b + (n - b) ≡ n = omega arith in
      let t : take n text ≡ take (b + (n - b)) text = rw e in
      ap (total f) (t ∙ take-add b (n - b) text) ∙ total_append f (take b text) begun

  -- so that it can be taken off
  pub covered : (q : Place) → Covers q text run n
      → (n - b ≤ q.bytes) × (1 + four_of (get_or text b 0) ≤ q.units) × (1 ≤ q.points) × (end_first (drop b text) ≤ q.lines)
  covered q c = (
    omega (arith, c.bytes),
    omega (arith, c.units, front start_of, front four_of, counts-are.0, counts-are.1),
    omega (arith, c.points, front start_of, counts-are.0),
    omega (arith, c.lines, ends-split n b text (omega arith), ends-are),
  )

  back-begun : (q : Place) → Covers q text run n
      → StepsBack text run n q
      (place (q.bytes - (n - b)) (q.units - (1 + four_of (get_or text b 0))) (q.points - 1) (q.lines - end_first (drop b text)))
  back-begun q c =
      let v = covered q c in
      let e₁ : q.bytes - (n - b) + (n - b) ≡ q.bytes = omega (arith, v.0) in
      let e₂ : q.units - (1 + four_of (get_or text b 0)) + total start_of begun + total four_of begun ≡ q.units
      = omega (arith, v.1, counts-are.0, counts-are.1) in
      let e₃ : q.points - 1 + total start_of begun ≡ q.points = omega (arith, v.2, counts-are.0) in
      let e₄ : q.lines - end_first (drop b text) + ends_in (n - b) (drop b text) ≡ q.lines = omega (arith, v.3, ends-are) in
      record {
        start = b;
        bounds = record {
          order = o.order;
          edge = λ i. o.first;
          others = λ i s t r. o.others i s t;
          ended = λ i. absurd (omega arith);
        };
        counts = rw (e₁, e₂, e₃, e₄);
      }

-- nothing is begun there
back_none : (text : List ℕ) (run n : ℕ) (q : Place) → (n < run → is_later (get_or text n 0) ≡ false) → StepsBack text run n q q
back_none text run n q e =
    let z : n - n ≡ 0 = omega arith in
    record {
      start = n;
      bounds = record {
        order = omega arith;
        edge = e;
        others = λ k s t r. absurd (omega arith);
        ended = λ i. refl;
      };
      counts = rw z (summed-none q (drop n text));
    }

-- THE STEP BACK leads there
pub steps_back : (text : List ℕ) (run n : ℕ) (q : Place) → Covers q text run n → StepsBack text run n q (back text run n q)
steps_back text run n q c = under n run
    (λ h.
    let b : ℕ = boundary text n in
    let o = boundary-bound text (c.first (omega arith)) n in
    split (eqb b n)
    (λ e.
    rw (lt-leb run n h, e)
    (back_none text run n q (λ i. subst (λ (k : ℕ). is_later (get_or text k 0) ≡ false) (eqb-true b n e) o.first)))
    (λ e. rw (lt-leb run n h, e) (back-begun text run n b c.there h o (omega (arith, o.order, eqb-false b n e)) q c)))
    (λ h. rw (le-leb run n h) (back_none text run n q (λ i. absurd (omega arith))))
