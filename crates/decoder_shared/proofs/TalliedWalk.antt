-- The walk in which all that is settled of a text is tallied, over any division: by runs of whole segments, and one segment behind each.
use mathlib.Core.Path.{◌≡◌, refl, sym, ap, ◌∙◌}
use Prim.Native.Nat.{ℕ, suc, ◌+◌, ◌≤◌}
use native.Mathlib.Nat.{add-zero, zero-add}
use mathlib.Core.Bool.{true, false, cond}
use mathlib.Core.List.{List, [], ◌∷◌, ◌++◌, foldl-append}
use lib.ListN.{length, take, drop, length-drop, take-append-drop}
use lib.Seq.{take-take, drop-drop, length-take-le, length-sets}
use native.Mathlib.Omega.{arith}
use Rattle.theory.specs.Reader.{Reader, Segment, Parts, first, cut, parts}
use Rattle.theory.specs.Table.{ended, Kind, whole, damage, is_damage}
use Rattle.theory.specs.Tally.{written, total, size, whole_of, damaged_of, count_of, Log}
use Rattle.theory.proofs.Divisions.{Division, first-size, total_append, cut-size, parts-nil, parts-sure, parts-open}
use Rattle.theory.proofs.TalliesAdd.{whole-damaged, count-damaged, store_is, log_is}
use Rattle.theory.proofs.WholeRuns.{Undamaged, run-parts, run-logged}
use Rattle.terms.specs.Limits.{limit, entry_width}
use Rattle.terms.specs.Told.{number_of, told_first, first_says, size_of}
use Rattle.terms.specs.declared.First.{First}
use Rattle.terms.specs.declared.First.TheVariants.{Nothing, Whole, Damage, Begun}
use Rattle.terms.proofs.WalkBySegments.{Seen, seen, nothing_seen}
use Rattle.decoder_shared.specs.Decoding.{numbers}
use Rattle.decoder_shared.specs.Inside.Steps.{tallied, Fits, passed, struck, segment_of, told_of, tallied_as, Settles}

-- nothing is written for a segment
abbrev unwritten : Segment Kind → List ℕ
unwritten s = []

written_none : (ss : List (Segment Kind)) → written unwritten ss ≡ []
written_none [] = refl
written_none (s ∷ ss) = written_none ss

-- ---- what segments do to a log in which nothing is written

module _ (room : ℕ) (l : Log) (ss : List (Segment Kind)) where
  -- the totals, and how long the list is
  pub tallied-whole : (tallied room l ss).whole ≡ l.whole + total (whole_of is_damage) ss
  tallied-whole = ap (λ (m : Log). m.whole) (log_is is_damage unwritten numbers entry_width room l ss)

  pub tallied-damaged : (tallied room l ss).damaged ≡ l.damaged + total (damaged_of is_damage) ss
  tallied-damaged = ap (λ (m : Log). m.damaged) (log_is is_damage unwritten numbers entry_width room l ss)

  pub tallied-count : (tallied room l ss).count ≡ l.count + total (count_of is_damage) ss
  tallied-count = ap (λ (m : Log). m.count) (log_is is_damage unwritten numbers entry_width room l ss)

  tallied-row : length (tallied room l ss).list ≡ length l.list
  tallied-row =
      ap (λ (m : Log). length m.list) (log_is is_damage unwritten numbers entry_width room l ss)
      ∙ rw (store_is numbers entry_width room (λ e. refl), length-sets)

  pub tallied-out : l.out ≡ [] → (tallied room l ss).out ≡ []
  tallied-out e = ap (λ (m : Log). m.out) (log_is is_damage unwritten numbers entry_width room l ss) ∙ rw (written_none ss, e)

  -- what is left of the room behind them
  pub tallied-fits : (more : ℕ) → Fits room (total size ss + more) l → Fits room more (tallied room l ss)
  tallied-fits more f = record {
    row = omega (arith, f.row, tallied-row);
    sums = omega (arith, f.sums, tallied-whole, tallied-damaged, whole-damaged is_damage ss);
    counts = omega (arith, f.counts, tallied-damaged, tallied-count, count-damaged is_damage ss);
  }

-- ---- a run of whole segments, and the first segment of a text

module _ (room : ℕ) (l : Log) (none : l.out ≡ []) where
  pub run-passed : (ss : List (Segment Kind)) → Undamaged is_damage ss → passed (total size ss) l ≡ tallied room l ss
  run-passed ss w = sym (run-logged is_damage unwritten numbers entry_width room l ss w ∙ rw (written_none ss, none))

  one-passed : (s : Segment Kind) (n : ℕ) → s.tag ≡ whole → n ≡ size s → passed n l ≡ tallied room l (s ∷ [])
  one-passed s n e k = rw (e, none, k) (simp add-zero)

  one-struck : (s : Segment Kind) (n c : ℕ) → s.tag ≡ damage c → n ≡ size s → struck room n c l ≡ tallied room l (s ∷ [])
  one-struck s n c e k = rw (e, none, k) (simp add-zero)

-- the settled segment that stands first in a text, if there is one
abbrev pub first_of : Reader Kind → List ℕ → List (Segment Kind)
first_of look [] = []
first_of look (x ∷ xs) = cond (look x xs).sure (first look x xs ∷ []) []

-- a segment is told alike of no more than its elements
pub told-short : (r : First) (text : List ℕ) → told_of r (take (size_of r) text) ≡ told_of r text
told-short Nothing text = refl
told-short (Whole n) text = rw (take-take n n text (omega arith))
told-short (Damage n c) text = rw (take-take n n text (omega arith))
told-short (Begun n) text = refl

-- it is the segment that the reader told of the text
one_told : (look : Reader Kind) (text : List ℕ) (n : ℕ) (kind : Kind) → Seen look text n kind true → segment_of kind (take n text) ≡ first_of look text
one_told look text n kind s = rw (s.text-is, s.long-is, s.sure-is, s.kind-is)

pub segment-told : (look : Reader Kind) (r : First) (text : List ℕ) → told_first r ≡ first_says look text → told_of r text ≡ first_of look text
segment-told look Nothing text e = rw (nothing_seen look text e)
segment-told look (Whole n) text e = one_told look text n whole (seen look text n whole true e)
segment-told look (Damage n c) text e = one_told look text n (damage (number_of c)) (seen look text n (damage (number_of c)) true e)
segment-told look (Begun n) text e = let s = seen look text n (damage ended) false e in rw (s.text-is, s.sure-is)

module _ {look : Reader Kind} (D : Division look) where
  -- what the reader told of a text is that segment, and the rest of the text goes on behind it
  pub record Told (text : List ℕ) (r : First) (ss : List (Segment Kind)) : Type 0 where
    pub tallies : (room : ℕ) (l : Log) → l.out ≡ [] → tallied_as room r l ≡ tallied room l ss
    pub size_is : total size ss ≤ size_of r
    pub inside : total size ss ≤ length text
    pub done-are : (parts look text).done ≡ ss ++ (parts look (drop (total size ss) text)).done

  seen-told : (text : List ℕ) (r : First) (n : ℕ) (kind : Kind) → Seen look text n kind true
      → ((room : ℕ) (l : Log) → l.out ≡ [] → (s : Segment Kind) → s.tag ≡ kind → n ≡ size s → tallied_as room r l ≡ tallied room l (s ∷ [])) → size_of r ≡ n
      → Told text r (first_of look text)
  seen-told text r n kind s t k =
      let x = s.head in
      let xs = s.tail in
      let f : first_of look text ≡ first look x xs ∷ [] = rw (s.text-is, s.sure-is) in
      let z : n ≡ size (first look x xs) = s.long-is ∙ sym (first-size D x xs) in
      let m : total size (first_of look text) ≡ suc (look x xs).more
      = ap (total size) f ∙ add-zero (size (first look x xs)) ∙ first-size D x xs in
      record {
        tallies = λ room l e. rw f (t room l e (first look x xs) s.kind-is z);
        size_is = omega (arith, m, k, s.long-is);
        inside = rw m (rw s.text-is (omega (arith, D.fits x xs)));
        done-are = rw (m, f, s.text-is) (ap (λ (p : Parts Kind). p.done) (parts-sure look x xs s.sure-is));
      }

  -- THE SEGMENT THAT THE READER TOLD of a text
  pub told : (text : List ℕ) (r : First) → told_first r ≡ first_says look text → Told text r (first_of look text)
  told text Nothing e = rw (nothing_seen look text e) (record { tallies = λ room l o. refl; size_is = omega arith; inside = omega arith; done-are = refl })
  told text (Whole n) e = seen-told text (Whole n) n whole (seen look text n whole true e) (λ room l o s k z. one-passed room l o s n k z) refl
  told text (Damage n c) e =
      seen-told text (Damage n c) n (damage (number_of c)) (seen look text n (damage (number_of c)) true e)
      (λ room l o s k z. one-struck room l o s n (number_of c) k z) refl
  told text (Begun n) e =
      let s = seen look text n (damage ended) false e in
      let f : first_of look text ≡ [] = rw (s.text-is, s.sure-is) in
      rw f (record { tallies = λ room l o. refl; size_is = omega arith; inside = omega arith; done-are = refl })

  -- nothing is settled where it is begun, or where there is nothing
  pub told-nothing : (text : List ℕ) → told_first Nothing ≡ first_says look text → (parts look text).done ≡ []
  told-nothing text e = rw (nothing_seen look text e, parts-nil look)

  pub told-begun : (text : List ℕ) (n : ℕ) → told_first (Begun n) ≡ first_says look text → (parts look text).done ≡ []
  told-begun text n e =
      let s = seen look text n (damage ended) false e in
      rw (s.text-is, parts-open look s.head s.tail s.sure-is)

  -- ---- THE WALK: what is tallied so far, and then the segments of the rest, is what those of the text give

  module _ (room : ℕ) (text : List ℕ) (l₀ : Log) where
    abbrev done : List ℕ → List (Segment Kind)
    done xs = (parts look xs).done

    pub record Walked (at : ℕ) (l : Log) : Type 0 where
      pub inside : at ≤ length text
      pub same : tallied room l₀ (done text) ≡ tallied room l (done (drop at text))
      pub size_is : total size (done text) ≡ at + total size (done (drop at text))
      pub fits : Fits room (length (drop at text)) l
      pub unwritten-is : l.out ≡ []

    pub walked_start : Fits room (length text) l₀ → l₀.out ≡ [] → Walked 0 l₀
    walked_start f e = record { inside = omega arith; same = refl; size_is = sym (zero-add (total size (done text))); fits = f; unwritten-is = e }

    module _ {at : ℕ} {l : Log} (w : Walked at l) where
      -- these settled segments stand next
      walked_next : (n : ℕ) (ss : List (Segment Kind)) → n ≡ total size ss → n ≤ length (drop at text)
          → done (drop at text) ≡ ss ++ done (drop n (drop at text)) → (m : Log) → m ≡ tallied room l ss → Walked (at + n) m
      walked_next n ss k h e m t =
          let d : drop n (drop at text) ≡ drop (at + n) text = drop-drop n at text in
          let long : length (drop at text) ≡ total size ss + length (drop (at + n) text)
          = omega (arith, k, h, w.inside, length-drop at text, length-drop (at + n) text) in
          let f : Fits room (total size ss + length (drop (at + n) text)) l = rw long at w.fits in
          let e' : done (drop at text) ≡ ss ++ done (drop (at + n) text) = e ∙ rw d in
          record {
            inside = omega (arith, h, w.inside, length-drop at text);
            same = w.same ∙ ap (tallied room l) e' ∙ foldl-append _ l ss (done (drop (at + n) text)) ∙ ap (λ (i : Log). tallied room i (done (drop (at + n) text))) (sym t);
            size_is = omega (arith, w.size_is, ap (total size) e', total_append size ss (done (drop (at + n) text)), k);
            fits = rw t (tallied-fits room l ss (length (drop (at + n) text)) f);
            unwritten-is = rw t (tallied-out room l ss w.unwritten-is);
          }

      -- a run of whole segments goes at once
      pub walked-run : ((x : ℕ) (xs : List ℕ) → is_damage (look x xs).tag ≡ false → (look x xs).sure ≡ true)
          → (n : ℕ) → n ≤ length (drop at text) → Undamaged is_damage (cut look (take n (drop at text))) → (m : Log) → m ≡ passed n l → Walked (at + n) m
      walked-run sure n h u m t =
          let rest : List ℕ = drop at text in
          let ss : List (Segment Kind) = cut look (take n rest) in
          let k : n ≡ total size ss = sym (cut-size look (take n rest) ∙ length-take-le n rest h) in
          let p : (parts look rest).done ≡ ss ++ (parts look (drop n rest)).done
          = ap (λ (xs : List ℕ). (parts look xs).done) (sym (take-append-drop n rest))
          ∙ ap (λ (p : Parts Kind). p.done) (run-parts is_damage look sure D (take n rest) (drop n rest) u) in
          let q : passed n l ≡ tallied room l ss = ap (λ (i : ℕ). passed i l) k ∙ run-passed room l w.unwritten-is ss u in
          walked_next n ss k h p m (t ∙ q)

      -- the run has room
      pub run_fits : (n : ℕ) → n ≤ length (drop at text) → l.whole + n ≤ limit
      run_fits n h = omega (arith, w.fits.sums)

      -- and so has the segment that the reader told of the rest
      module _ (r : First) (e : told_first r ≡ first_says look (drop at text)) where
        abbrev next : List (Segment Kind)
        next = first_of look (drop at text)

        pub walked-told : (m : Log) → m ≡ tallied_as room r l → Walked (at + total size next) m
        walked-told m t =
            let d = told (drop at text) r e in
            walked_next (total size next) next refl d.inside d.done-are m (t ∙ d.tallies room l w.unwritten-is)

      -- nothing more is settled
      pub walked_end : done (drop at text) ≡ [] → Settles look room text l₀ l at
      walked_end e = record {
        same = sym (w.same ∙ rw e);
        size_is = sym (w.size_is ∙ rw e (add-zero at));
      }
