-- The laws of what is kept: totals and entries of two runs of segments, the list with room, and the log of a text in pieces.
use mathlib.Core.Path.{◌≡◌, refl, sym, ap, ◌∙◌}
use Prim.Native.Nat.{ℕ, zero, suc, ◌+◌, ◌-◌, ◌*◌, ◌≤◌, ◌<◌}
use native.Mathlib.Nat.{zero-add, add-zero, add_assoc, mul-suc, mul-zero, mul-one, mul-add, sub-zero}
use mathlib.Core.Bool.{Bool, true, false, cond}
use mathlib.Core.List.{List, [], ◌∷◌, ◌++◌, append_assoc, append-nil, foldl}
use lib.ListN.{length, take, set, length-append}
use lib.Seq.{sets, take-nil}
use lib.Dec.{ltb}
use borrow.Author.Tests.{ltb-true, ltb-false}
use native.Mathlib.Omega.{arith}
use Rattle.theory.specs.Reader.{Reader, Segment, first, cut, parts}
use Rattle.theory.specs.Stream.{State, finish}
use Rattle.theory.specs.Tally.{written, total, size, Entry, noted, entries, whole_of, damaged_of, count_of, store, Log, log}
use Rattle.theory.proofs.Cases.{split, add_swap}
use Rattle.theory.proofs.Divisions.{Division, parts-nil, parts-sure, parts-open, by_parts, parts-size, first-size}
use Rattle.theory.proofs.AnyCalls.{Follows, follows-end}

-- ---- damage: its entries, with their starts, and the three totals

one_or_other : (b : Bool) (n : ℕ) → cond b zero n + cond b n zero ≡ n
one_or_other true n = omega arith
one_or_other false n = omega arith

module _ {K : Type 0} (bad : K → Bool) where
  -- whole and damaged elements together are all of them
  pub whole-damaged : (ss : List (Segment K)) → total (whole_of bad) ss + total (damaged_of bad) ss ≡ total size ss
  whole-damaged [] = refl
  whole-damaged (s ∷ ss) = omega (arith, whole-damaged ss, one_or_other (bad s.tag) (size s))

  noted-length : (at : ℕ) (s : Segment K) → length (noted bad at s) ≡ count_of bad s
  noted-length at s = split (bad s.tag) (λ e. rw e) (λ e. rw e)

  pub entries-length : (at : ℕ) (ss : List (Segment K)) → length (entries bad at ss) ≡ total (count_of bad) ss
  entries-length at [] = refl
  entries-length at (s ∷ ss) = rw (length-append, noted-length, entries-length (at + size s) ss)

  pub entries-append : (at : ℕ) (ss ts : List (Segment K)) → entries bad at (ss ++ ts) ≡ entries bad at ss ++ entries bad (at + total size ss) ts
  entries-append at [] ts = rw add-zero
  entries-append at (s ∷ ss) ts =
      rw (append_assoc, ← add_assoc) (ap (λ (r : List (Entry K)). noted bad at s ++ r) (entries-append (at + size s) ss ts))

  -- count ≤ damaged ≤ hold × count, where no damage has more than `hold` elements
  pub count-damaged : (ss : List (Segment K)) → total (count_of bad) ss ≤ total (damaged_of bad) ss
  count-damaged [] = omega arith
  count-damaged (s ∷ ss) = split (bad s.tag) (λ e. rw e (omega (arith, count-damaged ss))) (λ e. rw e (omega (arith, count-damaged ss)))

  module _ {look : Reader K} (D : Division look) (hold : ℕ) (short : (x : ℕ) (xs : List ℕ) → bad (look x xs).tag ≡ true → suc (look x xs).more ≤ hold) where
    damaged-first : (x : ℕ) (xs : List ℕ) → damaged_of bad (first look x xs) ≤ hold * count_of bad (first look x xs)
    damaged-first x xs = split (bad (look x xs).tag)
        (λ e. rw (e, mul-one) (omega (arith, short x xs e, first-size D x xs)))
        (λ e. rw e (omega arith))

    pub damaged-count : (xs : List ℕ) → total (damaged_of bad) (parts look xs).done ≤ hold * total (count_of bad) (parts look xs).done
    damaged-count = by_parts look (λ (xs : List ℕ). total (damaged_of bad) (parts look xs).done ≤ hold * total (count_of bad) (parts look xs).done)
        (rw (parts-nil look) (omega arith))
        (λ x xs e ih. rw (parts-sure look x xs e, mul-add) (omega (arith, damaged-first x xs)))
        (λ x xs e. rw (parts-open look x xs e) (omega arith))

-- ---- the list with room

pub sets_append : {A : Type 0} (b : List A) (i : ℕ) (vs ws : List A) → sets b i (vs ++ ws) ≡ sets (sets b i vs) (i + length vs) ws
sets_append b i [] ws = rw add-zero
sets_append b i (v ∷ vs) ws = sets_append (set b i v) (suc i) vs ws ∙ rw add_swap

module _ {A E : Type 0} (enc : E → List A) (width room : ℕ) where
  pub store-append : (b : List A) (i : ℕ) (es fs : List E) → store enc width room b i (es ++ fs) ≡ store enc width room (store enc width room b i es) (i + length es) fs
  store-append b i [] fs = rw add-zero
  store-append b i (e ∷ es) fs = store-append (cond (ltb i room) (sets b (width * i) (enc e)) b) (suc i) es fs ∙ rw (add_swap i (length es))

  -- A FULL LIST KEEPS ITS FIRST ENTRIES, and the rest of it is as it was
  pub store_is : ((e : E) → length (enc e) ≡ width) → (b : List A) (i : ℕ) (es : List E)
      → store enc width room b i es ≡ sets b (width * i) (written enc (take (room - i) es))
  store_is fixed b i [] = rw take-nil
  store_is fixed b i (e ∷ es) = split (ltb i room)
      (λ t.
      let h : i < room = ltb-true i room t in
      let k : room - i ≡ suc (room - suc i) = omega arith in
      rw (t, k, sets_append b (width * i) (enc e)) (store_is fixed (sets b (width * i) (enc e)) (suc i) es ∙ rw (fixed e, mul-suc)))
      (λ t.
      let h : room ≤ i = ltb-false i room t in
      let k : room - i ≡ zero = omega arith in
      let k' : room - suc i ≡ zero = omega arith in
      rw (t, k) (store_is fixed b (suc i) es ∙ rw k'))

-- ---- the log: all of it, as one action

module _ {K : Type 0} (bad : K → Bool) (w : Segment K → List ℕ) (enc : Entry K → List ℕ) (width room : ℕ) where
  -- what a run of segments makes of a log
  abbrev pub logged : Log → List (Segment K) → Log
  logged l ss = record {
    whole = l.whole + total (whole_of bad) ss;
    damaged = l.damaged + total (damaged_of bad) ss;
    count = l.count + total (count_of bad) ss;
    out = l.out ++ written w ss;
    list = store enc width room l.list l.count (entries bad (l.whole + l.damaged) ss);
  }

  pub log_is : (l : Log) (ss : List (Segment K)) → foldl (log bad w enc width room) l ss ≡ logged l ss
  log_is l [] = simp (add-zero, append-nil)
  log_is l (s ∷ ss) =
      let pos : (l.whole + whole_of bad s) + (l.damaged + damaged_of bad s) ≡ l.whole + l.damaged + size s
      = omega (arith, one_or_other (bad s.tag) (size s)) in
      log_is (log bad w enc width room l s) ss ∙ rw (pos, store-append, noted-length) (simp (add_assoc, append_assoc))

  -- an output in front of a log, and a log without its output
  abbrev pub behind : List ℕ → Log → Log
  behind out l = record { whole = l.whole; damaged = l.damaged; count = l.count; out = out ++ l.out; list = l.list }

  abbrev pub unwritten : Log → Log
  unwritten l = record { whole = l.whole; damaged = l.damaged; count = l.count; out = []; list = l.list }

  -- what a run of segments writes does not depend on what was written before
  pub log-behind : (l : Log) (ss : List (Segment K))
      → foldl (log bad w enc width room) l ss ≡ behind l.out (foldl (log bad w enc width room) (unwritten l) ss)
  log-behind l ss = log_is l ss ∙ ap (behind l.out) (sym (log_is (unwritten l) ss))

  abbrev pub empty : List ℕ → Log
  empty row = record { whole = zero; damaged = zero; count = zero; out = []; list = row }

  -- what segments make of the empty log: their totals, their written form, and the first of their entries in the list
  abbrev pub tallied : List ℕ → List (Segment K) → Log
  tallied row ss = record {
    whole = total (whole_of bad) ss;
    damaged = total (damaged_of bad) ss;
    count = total (count_of bad) ss;
    out = written w ss;
    list = sets row zero (written enc (take room (entries bad zero ss)));
  }

  module _ (fixed : (e : Entry K) → length (enc e) ≡ width) (row : List ℕ) where
    tallied-is : (ss : List (Segment K)) → foldl (log bad w enc width room) (empty row) ss ≡ tallied row ss
    tallied-is ss = log_is (empty row) ss ∙ rw (store_is enc width room fixed) (simp (zero-add, mul-zero, sub-zero))

    -- THE CUTTING DOES NOT MATTER: over any division, any written form and any room, the log that follows a text is the one that
    -- the text says, however it came
    module _ {look : Reader K} (D : Division look) (text : List ℕ) (s : State Log)
        (f : Follows D (log bad w enc width room) (empty row) (λ (s : State Log). s) text s) where
      pub so_far : s.kept ≡ tallied row (parts look text).done
      so_far = ap (λ (s : State Log). s.kept) f ∙ tallied-is (parts look text).done

      -- it balances
      pub balance : s.kept.whole + s.kept.damaged + length s.left ≡ length text
      balance = rw (so_far, whole-damaged bad (parts look text).done, f) (parts-size look text)

      -- and at the end there is what all the text gives
      pub at-end : finish look (log bad w enc width room) s ≡ tallied row (cut look text)
      at-end = follows-end D (log bad w enc width room) (empty row) (λ (s : State Log). s) text s f ∙ tallied-is (cut look text)
