-- A RUN of whole segments that are settled: the text divides behind it, and the places in it are those of the sums of their bytes.
use mathlib.Core.Path.{◌≡◌, refl, sym, ap, subst, ◌∙◌}
use Prim.Native.Nat.{ℕ, zero, suc, ◌+◌, ◌-◌, ◌≤◌, ◌<◌}
use mathlib.Core.Bool.{true, false, true≢false}
use mathlib.Core.List.{List, [], ◌∷◌, ◌++◌, foldl}
use lib.ListN.{length, get_or, take, drop}
use lib.Seq.{drop-drop, get_or-drop, get_or-take, length-take-le}
use native.Mathlib.Omega.{arith}
use Rattle.theory.specs.Reader.{Segment, first, rest, cut, parts}
use Rattle.theory.specs.Table.{Kind, whole}
use Rattle.theory.specs.Tally.{total, size}
use Rattle.theory.specs.Place.{last}
use Rattle.theory.proofs.Cases.{split, under}
use Rattle.theory.proofs.Divisions.{before, total_append, by-segments, cut-nil, cut-cons, cut-size, first-size, parts-sure}
use Rattle.theory.proofs.PlacesFound.{last-over, last-here}
use Rattle.terms.specs.Limits.{limit}
use Rattle.terms.proofs.ConvertsBack.{AllWhole, none-whole, whole-none}
use Rattle.utf8.specs.Bytes.{bytes}
use Rattle.utf8.proofs.RowsOfBytes.{bytes_division, whole-sure}
use Rattle.utf8_scan.specs.Stands.{is_later}
use Rattle.utf8_count.specs.Counts.{start_of, four_of}
use Rattle.utf8_count.proofs.SumsOfSegments.{Laters, laters-none, formed-first}
use Rattle.place.specs.Measures.{Tag, place, units_of, lines_of, ruler, reader}
use Rattle.place.specs.declared.Place.{Place}
use Rattle.place.proofs.ReaderDivides.{reader_division}
use Rattle.place.proofs.MeasuresRise.{one_or_none, one_or_two, units-within}
use Rattle.place.proofs.LineEnds.{segment-laters, segment-ends}
use Rattle.index_build.specs.Inside.Summed.{summed}
use Rattle.index_build.specs.Inside.Steps.{Fits}
use Rattle.index_build.specs.Inside.Runs.{Settled}
use Rattle.index_build.proofs.CountsAdd.{summed-none, summed_append}
use Rattle.index_build.proofs.LoneReturn.{sure-both}

-- ---- one whole segment

module _ (x : ℕ) (xs : List ℕ) (w : (bytes x xs).tag ≡ whole) where
  abbrev more : ℕ
  more = (bytes x xs).more

  abbrev segment : Segment Tag
  segment = first reader x xs

  -- it begins with a byte that is no later byte
  starts : is_later x ≡ false
  starts = split (is_later x)
      (λ e. let z : start_of x ≡ 0 = rw e in absurd (omega (arith, z, (formed-first x xs w).0.0)))
      (λ e. e)

  -- and the place behind it is that of its bytes' sums
  step-summed : (p : Place) → ruler.step p segment ≡ summed p (x ∷ xs) (size segment)
  step-summed p =
      let f = formed-first x xs w in
      let l : length (take more xs) ≡ more = length-take-le more xs (bytes_division.fits x xs) in
      let n = laters-none (take more xs) f.1 in
      let n₁ : total start_of (take (length (take more xs)) xs) ≡ 0 = rw l n.0 in
      let n₂ : total four_of (take (length (take more xs)) xs) ≡ 0 = rw l n.1 in
      let v : units_of segment ≡ 1 + four_of x = rw w f.0.1 in
      let u : p.units + units_of segment ≡ (summed p (x ∷ xs) (size segment)).units = omega (arith, v, n₁, n₂, f.0) in
      let c : p.points + 1 ≡ (summed p (x ∷ xs) (size segment)).points = omega (arith, n₁, f.0) in
      let e : p.lines + lines_of segment ≡ (summed p (x ∷ xs) (size segment)).lines = omega (arith, segment-ends x xs) in
      λ i. place (p.bytes + size segment) (u i) (c i) (e i)

  step_fits : (p : Place) → Fits p → p.bytes + size segment ≤ limit → Fits (ruler.step p segment)
  step_fits p f h = record {
    lines = omega (arith, f.lines, one_or_none segment);
    points = omega (arith, f.points, one_or_two segment);
    units = omega (arith, f.units, units-within x xs);
    within = h;
  }

-- ---- a run: what it divides into, and where its segments begin

-- `start` is where the last segment begins at or before byte n of a run; the end of the run is such a place
pub record Bounds (text : List ℕ) (run n start : ℕ) : Type 0 where
  pub order : start ≤ n
  pub edge : start < run → is_later (get_or text start 0) ≡ false
  pub others : (k : ℕ) → start < k → k ≤ n → k < run → is_later (get_or text k 0) ≡ true
  pub ended : run ≤ n → start ≡ n

pub record Divided (text : List ℕ) (run : ℕ) : Type 0 where
  pub front : List (Segment Tag)
  pub parted : parts reader text ≡ before front (parts reader (drop run text))
  pub counts : (p : Place) → foldl ruler.step p front ≡ summed p text run
  pub lasts : (p : Place) (n start : ℕ) → n ≤ run → Bounds text run n start → last ruler.step ruler.bytes (p.bytes + n) p front ≡ summed p text start
  pub fits : (p : Place) → Fits p → p.bytes + run ≤ limit → (n start : ℕ) → n ≤ run → Bounds text run n start → Fits (summed p text start)

divided_none : (text : List ℕ) → Divided text 0
divided_none text = record {
  front = [];
  parted = refl;
  counts = λ p. sym (summed-none p text);
  lasts = λ p n start h b. let z : start ≡ 0 = omega (arith, b.order) in rw (z, summed-none p text);
  fits = λ p f l n start h b. let z : start ≡ 0 = omega (arith, b.order) in rw (z, summed-none p text) f;
}

-- a byte among later ones
laters-at : (ys : List ℕ) → Laters ys → (i : ℕ) → i < length ys → is_later (get_or ys i 0) ≡ true
laters-at [] a i h = absurd (omega arith)
laters-at (y ∷ ys) a zero h = a.0
laters-at (y ∷ ys) a (suc i) h = laters-at ys a.1 i (omega arith)

-- one segment more in front
module _ (x : ℕ) (xs : List ℕ) (w : (bytes x xs).tag ≡ whole) (sure : (reader x xs).sure ≡ true) (run : ℕ) (enough : size (segment x xs w) ≤ run)
    (begins : size (segment x xs w) < run → is_later (get_or (rest bytes x xs) 0 0) ≡ false)
    (d : Divided (rest bytes x xs) (run - size (segment x xs w))) where
  abbrev long : ℕ
  long = size (segment x xs w)

  long-is : long ≡ suc (more x xs w)
  long-is = first-size reader_division x xs

  behind-is : drop long (x ∷ xs) ≡ rest bytes x xs
  behind-is = rw long-is

  byte-behind : (k : ℕ) → get_or (rest bytes x xs) k 0 ≡ get_or (x ∷ xs) (long + k) 0
  byte-behind k = ap (λ (t : List ℕ). get_or t k 0) (sym behind-is) ∙ get_or-drop long (x ∷ xs) k 0

  -- inside it there are later bytes
  inside-later : (i : ℕ) → i < more x xs w → is_later (get_or xs i 0) ≡ true
  inside-later i h =
      let l : length (take (more x xs w) xs) ≡ more x xs w = length-take-le (more x xs w) xs (bytes_division.fits x xs) in
      sym (ap (λ (y : ℕ). is_later y) (get_or-take (more x xs w) xs i 0 h)) ∙ laters-at (take (more x xs w) xs) (segment-laters x xs) i (omega arith)

  starts-here : (n start : ℕ) → n < long → Bounds (x ∷ xs) run n start → start ≡ 0
  starts-here n zero h b = refl
  starts-here n (suc i) h b =
      let k : i < more x xs w = omega (arith, h, long-is, b.order) in
      absurd (true≢false (sym (inside-later i k) ∙ b.edge (omega (arith, h, b.order, enough))))

  -- where it ends, the run does, or another segment begins
  starts-behind : (n start : ℕ) → long ≤ n → Bounds (x ∷ xs) run n start → long ≤ start
  starts-behind n start h b = under start long
      (λ l. under long run
      (λ r.
      let z : long + 0 ≡ long = omega arith in
      let e : is_later (get_or (x ∷ xs) long 0) ≡ false = rw (byte-behind 0, z) at (begins r) in
      absurd (true≢false (sym (b.others long l h r) ∙ e)))
      (λ r. absurd (omega (arith, b.ended (omega arith), l, h))))
      (λ l. l)

  bounds-behind : (n start : ℕ) → long ≤ n → Bounds (x ∷ xs) run n start → Bounds (rest bytes x xs) (run - long) (n - long) (start - long)
  bounds-behind n start h b =
      let l = starts-behind n start h b in
      let e : long + (start - long) ≡ start = omega arith in
      record {
        order = omega (arith, b.order);
        edge = λ r. rw (byte-behind (start - long), e) (b.edge (omega arith));
        others = λ k i j r. rw (byte-behind k) (b.others (long + k) (omega arith) (omega arith) (omega arith));
        ended = λ r. let q = b.ended (omega (arith, enough)) in omega arith;
      }

  -- its sums, and then those of the bytes behind it
  summed-on : (p : Place) (k : ℕ) → summed (ruler.step p (segment x xs w)) (rest bytes x xs) k ≡ summed p (x ∷ xs) (long + k)
  summed-on p k =
      ap (λ (q : Place). summed q (rest bytes x xs) k) (step-summed x xs w p)
      ∙ ap (λ (t : List ℕ). summed (summed p (x ∷ xs) long) t k) (sym behind-is)
      ∙ summed_append p (x ∷ xs) long k

  summed_at : (p : Place) (m : ℕ) → long ≤ m → summed (ruler.step p (segment x xs w)) (rest bytes x xs) (m - long) ≡ summed p (x ∷ xs) m
  summed_at p m h = let e : long + (m - long) ≡ m = omega arith in summed-on p (m - long) ∙ rw e

  last-at : (p : Place) (n start : ℕ) → n ≤ run → Bounds (x ∷ xs) run n start
      → last ruler.step ruler.bytes (p.bytes + n) p (segment x xs w ∷ d.front) ≡ summed p (x ∷ xs) start
  last-at p n start h b = under n long
      (λ l.
      last-here ruler.step ruler.bytes (p.bytes + n) p (segment x xs w) d.front (omega arith)
      ∙ rw (starts-here n start l b, summed-none p (x ∷ xs)))
      (λ l.
      let q : Place = ruler.step p (segment x xs w) in
      let e : q.bytes + (n - long) ≡ p.bytes + n = omega arith in
      last-over ruler.step ruler.bytes (p.bytes + n) p (segment x xs w) d.front (omega arith)
      ∙ (rw e at (d.lasts q (n - long) (start - long) (omega arith) (bounds-behind n start l b)))
      ∙ summed_at p start (starts-behind n start l b))

  fits-at : (p : Place) → Fits p → p.bytes + run ≤ limit → (n start : ℕ) → n ≤ run → Bounds (x ∷ xs) run n start → Fits (summed p (x ∷ xs) start)
  fits-at p f h n start m b = under n long
      (λ l. rw (starts-here n start l b, summed-none p (x ∷ xs)) f)
      (λ l.
      subst Fits (summed_at p start (starts-behind n start l b))
      (d.fits (ruler.step p (segment x xs w)) (step_fits x xs w p f (omega (arith, enough))) (omega (arith, enough))
      (n - long) (start - long) (omega arith) (bounds-behind n start l b)))

  divided-more : Divided (x ∷ xs) run
  divided-more =
      let e : long + (run - long) ≡ run = omega (arith, enough) in
      let t : drop (run - long) (rest bytes x xs) ≡ drop run (x ∷ xs)
      = ap (drop (run - long)) (sym behind-is) ∙ drop-drop (run - long) long (x ∷ xs) ∙ rw e in
      record {
        front = segment x xs w ∷ d.front;
        parted = parts-sure reader x xs sure ∙ rw (d.parted, t);
        counts = λ p. d.counts (ruler.step p (segment x xs w)) ∙ summed_at p run enough;
        lasts = last-at;
        fits = fits-at;
      }

-- the first segment of a run that is not empty, and the run behind it
record Head (x : ℕ) (xs : List ℕ) (run : ℕ) : Type 0 where
  whole_is : (bytes x xs).tag ≡ whole
  enough : size (segment x xs whole_is) ≤ run
  behind : Settled (rest bytes x xs) (run - size (segment x xs whole_is))

settled-head : (x : ℕ) (xs : List ℕ) (run : ℕ) → Settled (x ∷ xs) run → 0 < run → Head x xs run
settled-head x xs run s h = go s.front refl
  where
    go : (fs : List (Segment Kind)) → s.front ≡ fs → Head x xs run
    go [] e = absurd (omega (arith, s.sized, ap (total size) e))
    go (g ∷ gs) e =
        let c : first bytes x xs ∷ cut bytes (rest bytes x xs) ≡ g ∷ (gs ++ s.behind) = sym (cut-cons bytes x xs) ∙ s.divided ∙ rw e in
        let i : g ≡ first bytes x xs = cc in
        let a : AllWhole (g ∷ gs) = none-whole 0 (g ∷ gs) (rw e at s.whole) in
        let w : (bytes x xs).tag ≡ whole = rw i at a.0 in
        let n : ℕ = size (segment x xs w) in
        let z : size g + total size gs ≡ run = rw e at s.sized in
        let k : size g ≡ n = rw i in
        let l : n ≡ suc (bytes x xs).more = first-size reader_division x xs in
        let b : drop n (x ∷ xs) ≡ rest bytes x xs = rw l in
        record {
          whole_is = w;
          enough = omega arith;
          behind = record {
            front = gs;
            behind = s.behind;
            divided = cc;
            sized = omega arith;
            whole = whole-none 0 gs a.1;
            free = λ j m. rw (← b, drop-drop j n (x ∷ xs)) (s.free (n + j) (omega arith));
          };
        }

pub settled-starts : (text : List ℕ) (run : ℕ) → Settled text run → 0 < run → is_later (get_or text 0 0) ≡ false
settled-starts [] run s h = absurd (none s.front refl)
  where
    none : (fs : List (Segment Kind)) → s.front ≡ fs → ⊥
    none [] e = omega (arith, s.sized, ap (total size) e)
    none (g ∷ gs) e = let c : [] ≡ g ∷ (gs ++ s.behind) = sym (cut-nil bytes) ∙ s.divided ∙ rw e in let z : ◌≡◌ {A = ℕ} 0 1 = cc in omega arith
settled-starts (x ∷ xs) run s h = starts x xs (settled-head x xs run s h).whole_is

pub settled-inside : (text : List ℕ) (run : ℕ) → Settled text run → run ≤ length text
settled-inside text run s =
    let e : total size (cut bytes text) ≡ total size s.front + total size s.behind = ap (total size) s.divided ∙ total_append size s.front s.behind in
    omega (arith, e, s.sized, cut-size bytes text)

-- A SETTLED RUN divides the text
pub run_divided : (text : List ℕ) (run : ℕ) → Settled text run → Divided text run
run_divided = by-segments bytes (λ (text : List ℕ). (run : ℕ) → Settled text run → Divided text run)
    (λ run s. under 0 run
    (λ h. absurd (omega (arith, settled-inside [] run s)))
    (λ h. let z : run ≡ 0 = omega arith in subst (Divided []) (sym z) (divided_none [])))
    (λ x xs ih run s. under 0 run
    (λ h.
    let a = settled-head x xs run s h in
    let u : (reader x xs).sure ≡ true = sure-both x xs ∙ rw (whole-sure x xs (rw a.whole_is), s.free 0 h) in
    let n : ℕ = size (segment x xs a.whole_is) in
    divided-more x xs a.whole_is u run a.enough (λ m. settled-starts (rest bytes x xs) (run - n) a.behind (omega arith)) (ih (run - n) a.behind))
    (λ h. let z : run ≡ 0 = omega arith in subst (Divided (x ∷ xs)) (sym z) (divided_none (x ∷ xs))))
