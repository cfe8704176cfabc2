-- That a table's reader reads the paper's segments, and that a text divides in exactly one way, for any table whose rows do not meet.
use mathlib.Core.Path.{◌≡◌, refl, sym, ap, ap₂, ◌∙◌}
use mathlib.Core.Logic.{◌⊎◌, inl, inr, ⊎_elim}
use Prim.Native.Nat.{ℕ, zero, suc, ◌≤◌, ◌<◌, suc-le-suc}
use native.Mathlib.Nat.{le_antisymm, le_of_suc-le-suc}
use mathlib.Core.Bool.{Bool, true, false, cond, ◌&&◌, true≢false}
use mathlib.Core.List.{List, [], ◌∷◌, ◌++◌}
use mathlib.Core.Option.{Option, none, some}
use lib.ListN.{length, take, drop}
use lib.Seq.{length-take-le}
use lib.Dec.{leb}
use borrow.Author.Tests.{leb-true}
use native.Mathlib.Omega.{arith}
use Rattle.theory.specs.Reader.{Look, Segment, first, cut}
use Rattle.theory.specs.Tally.{size}
use Rattle.theory.specs.Table.{Range, within, Row, stopped, ended, Kind, whole, damage, is_damage, cause_of, longer, want, wanted_behind, read}
use Rattle.theory.specs.Sequence.{Matches, Sequence, Whole, Begun, StoppedBy, Stands, Divides}
use Rattle.theory.proofs.Cases.{split, both}
use Rattle.theory.proofs.Divisions.{cut-nil, cut-cons, by-segments}
use Rattle.theory.proofs.TableDivides.{in_range, in_yes, want_fits, table-division}

-- no range is empty
abbrev Proper : List Range → Type 0
Proper [] = Unit {0}
Proper (r ∷ rs) = (r.low ≤ r.high) × Proper rs

-- no range of a table is empty, and its leads rise from `low` on, so that no two of them meet
abbrev pub Sound : ℕ → List Row → Type 0
Sound low [] = Unit {0}
Sound low (w ∷ ws) = (low ≤ w.lead.low) × (w.lead.low ≤ w.lead.high) × Proper w.later × Sound (suc w.lead.high) ws

-- the same as a test, which computes at a table
abbrev proper : List Range → Bool
proper [] = true
proper (r ∷ rs) = leb r.low r.high && proper rs

abbrev pub sound : ℕ → List Row → Bool
sound low [] = true
sound low (w ∷ ws) = leb low w.lead.low && (proper (w.lead ∷ w.later) && sound (suc w.lead.high) ws)

is_proper : (rs : List Range) → proper rs ≡ true → Proper rs
is_proper [] t = tt
is_proper (r ∷ rs) t = let b = both (leb r.low r.high) (proper rs) t in (leb-true _ _ b.0, is_proper rs b.1)

pub is_sound : (low : ℕ) (rows : List Row) → sound low rows ≡ true → Sound low rows
is_sound low [] t = tt
is_sound low (w ∷ ws) t =
    let a = both (leb low w.lead.low) (proper (w.lead ∷ w.later) && sound (suc w.lead.high) ws) t in
    let b = both (proper (w.lead ∷ w.later)) (sound (suc w.lead.high) ws) a.1 in
    let p = is_proper (w.lead ∷ w.later) b.0 in
    (leb-true _ _ a.0, p.0, p.1, is_sound (suc w.lead.high) ws b.1)

whole_no_damage : (c : ℕ) → whole ≡ damage c → ⊥
whole_no_damage c e = true≢false (sym (ap is_damage e))

-- ---- a begun sequence

want_of_match : (rs : List Range) (xs : List ℕ) (k : ℕ) → k ≤ length xs → Matches rs (take k xs) → want rs xs ≡ record { more = k; tag = whole; sure = true }
want_of_match [] xs zero h m = refl
want_of_match [] [] (suc k) h m = absurd (omega arith)
want_of_match [] (x ∷ xs) (suc k) h m = absurd m
want_of_match (r ∷ rs) xs zero h m = absurd m
want_of_match (r ∷ rs) [] (suc k) h m = absurd m
want_of_match (r ∷ rs) (x ∷ xs) (suc k) h m = rw m.0 (ap longer (want_of_match rs xs k (le_of_suc-le-suc h) m.1))

match_of_want : (rs : List Range) (xs : List ℕ) → (want rs xs).tag ≡ whole → Matches rs (take (want rs xs).more xs)
match_of_want [] xs e = tt
match_of_want (r ∷ rs) [] e = absurd (whole_no_damage ended (sym e))
match_of_want (r ∷ rs) (x ∷ xs) e = split (within r x)
    (λ i. rw i (i, match_of_want rs xs (rw i at e)))
    (λ i. absurd (whole_no_damage stopped (sym (rw i at e))))

-- the least element of each range
lows : List Range → List ℕ
lows [] = []
lows (r ∷ rs) = r.low ∷ lows rs

match_lows : (rs : List Range) → Proper rs → Matches rs (lows rs)
unfolding lows
match_lows [] p = tt
match_lows (r ∷ rs) p = (in_yes r r.low (omega arith) p.0, match_lows rs p.1)

-- what completes the part that was read
others : List Range → List ℕ → List ℕ
others rs [] = lows rs
others [] (x ∷ xs) = []
others (r ∷ rs) (x ∷ xs) = let o = others rs xs in cond (within r x) o (lows (r ∷ rs))

match_others : (rs : List Range) (xs : List ℕ) → Proper rs → Matches rs (take (want rs xs).more xs ++ others rs xs)
unfolding others
match_others [] [] p = match_lows [] p
match_others (r ∷ rs) [] p = match_lows (r ∷ rs) p
match_others [] (x ∷ xs) p = tt
match_others (r ∷ rs) (x ∷ xs) p = split (within r x) (λ e. rw e (e, match_others rs xs p.1)) (λ e. rw e (match_lows (r ∷ rs) p))

want-longest : (rs : List Range) (xs zs : List ℕ) (k : ℕ) → k ≤ length xs → Matches rs (take k xs ++ zs) → k ≤ (want rs xs).more
want-longest rs xs zs zero h m = omega arith
want-longest rs [] zs (suc k) h m = absurd (omega arith)
want-longest [] (x ∷ xs) zs (suc k) h m = absurd m
want-longest (r ∷ rs) (x ∷ xs) zs (suc k) h m = rw m.0 (suc-le-suc (want-longest rs xs zs k (le_of_suc-le-suc h) m.1))

-- what stops it is the cause
want-stopped : (rs : List Range) (xs : List ℕ) (c : ℕ) → (want rs xs).tag ≡ damage c
    → (((want rs xs).more < length xs) × (c ≡ stopped)) ⊎ (((want rs xs).more ≡ length xs) × (c ≡ ended))
want-stopped [] xs c e = absurd (whole_no_damage c e)
want-stopped (r ∷ rs) [] c e = inr (refl, sym (ap cause_of e))
want-stopped (r ∷ rs) (x ∷ xs) c e = split (within r x)
    (λ i. rw i (⊎_elim (λ s. inl (suc-le-suc s.0, s.1)) (λ s. inr (ap suc s.0, s.1)) (want-stopped rs xs c (rw i at e))))
    (λ i. rw i (inl (omega arith, sym (ap cause_of (rw i at e)))))

one-stop : (rows : List Row) (text : List ℕ) (n c d : ℕ) → StoppedBy rows text n c → StoppedBy rows text n d → c ≡ d
one-stop rows text n c d (inl a) (inl b) = a.1 ∙ sym b.1
one-stop rows text n c d (inl a) (inr b) = absurd (omega (arith, a.0, b.0))
one-stop rows text n c d (inr a) (inl b) = absurd (omega (arith, a.0, b.0))
one-stop rows text n c d (inr a) (inr b) = a.1 ∙ sym b.1

-- ---- the row that an element begins

-- x begins the row that goes on with rs
pub record Begins (rows : List Row) (x : ℕ) (rs : List Range) : Type 0 where
  pub fine : Proper rs
  pub to-match : (ys : List ℕ) → Sequence rows (x ∷ ys) → Matches rs ys
  pub of-match : (ys : List ℕ) → Matches rs ys → Sequence rows (x ∷ ys)
  pub wanted : wanted_behind rows x ≡ some rs

-- x begins none
pub record Alone (rows : List Row) (x : ℕ) : Type 0 where
  pub no-sequence : (ys : List ℕ) → Sequence rows (x ∷ ys) → ⊥
  pub unwanted : wanted_behind rows x ≡ none

pub data Lead (rows : List Row) (x : ℕ) : Type 0 where
  begins : (rs : List Range) → Begins rows x rs → Lead rows x
  alone : Alone rows x → Lead rows x

-- rows whose leads lie above x
none_above : (low : ℕ) (rows : List Row) (x : ℕ) (ys : List ℕ) → Sound low rows → x < low → Sequence rows (x ∷ ys) → ⊥
none_above low [] x ys p h s = s
none_above low (w ∷ ws) x ys p h (inl m) = let k = in_range w.lead x m.0 in omega arith
none_above low (w ∷ ws) x ys p h (inr s) = none_above (suc w.lead.high) ws x ys p.3 (omega arith) s

lead-here : (low : ℕ) (w : Row) (ws : List Row) (x : ℕ) → Sound low (w ∷ ws) → within w.lead x ≡ true → Lead (w ∷ ws) x
lead-here low w ws x p e = begins w.later (record {
  fine = p.2;
  to-match = λ ys s. ⊎_elim (λ m. m.1) (λ t. absurd (none_above (suc w.lead.high) ws x ys p.3 (suc-le-suc (in_range w.lead x e).1) t)) s;
  of-match = λ ys m. inl (e, m);
  wanted = rw e;
})

lead-behind : (w : Row) (ws : List Row) (x : ℕ) → within w.lead x ≡ false → Lead ws x → Lead (w ∷ ws) x
lead-behind w ws x e (begins rs b) = begins rs (record {
  fine = b.fine;
  to-match = λ ys s. ⊎_elim (λ m. absurd (true≢false (sym m.0 ∙ e))) (b.to-match ys) s;
  of-match = λ ys m. inr (b.of-match ys m);
  wanted = rw e b.wanted;
})
lead-behind w ws x e (alone a) = alone (record {
  no-sequence = λ ys s. ⊎_elim (λ m. true≢false (sym m.0 ∙ e)) (a.no-sequence ys) s;
  unwanted = rw e a.unwanted;
})

lead_of : (low : ℕ) (rows : List Row) (x : ℕ) → Sound low rows → Lead rows x
lead_of low [] x p = alone (record { no-sequence = λ ys s. s; unwanted = refl })
lead_of low (w ∷ ws) x p = split (within w.lead x) (lead-here low w ws x p) (λ e. lead-behind w ws x e (lead_of (suc w.lead.high) ws x p.3))

pub none_no_some : (rs : List Range) → ◌≡◌ {A = Option (List Range)} none (some rs) → ⊥
none_no_some rs e = true≢false (ap (λ (o : Option (List Range)). is_none o) e)
  where
    is_none : Option (List Range) → Bool
    is_none none = true
    is_none (some qs) = false

-- every sequence has a first element
pub no_empty : (rows : List Row) → Sequence rows [] → ⊥
no_empty [] s = s
no_empty (w ∷ ws) (inl m) = m
no_empty (w ∷ ws) (inr s) = no_empty ws s

-- ---- THE SEGMENT THAT IS READ IS THE PAPER'S

module _ (rows : List Row) (cause : ℕ → ℕ) (x : ℕ) (xs : List ℕ) where
  -- x begins a row: a sequence that stands there is what is read, and what is read stands there
  module _ (rs : List Range) (b : Begins rows x rs) where
    whole-read : (k : ℕ) → Whole rows (x ∷ xs) k → (k ≡ suc (want rs xs).more) × ((want rs xs).tag ≡ whole)
    whole-read zero h = absurd (no_empty rows h.sequence)
    whole-read (suc k) h =
        let e : want rs xs ≡ record { more = k; tag = whole; sure = true }
        = want_of_match rs xs k (le_of_suc-le-suc h.inside) (b.to-match (take k xs) h.sequence) in
        (ap suc (sym (ap (λ (l : Look Kind). l.more) e)), ap (λ (l : Look Kind). l.tag) e)

    begun-read : Begun rows (x ∷ xs) (suc (want rs xs).more)
    begun-read = record {
      some = omega arith;
      inside = suc-le-suc (want_fits rs xs);
      others = others rs xs;
      sequence = b.of-match (take (want rs xs).more xs ++ others rs xs) (match_others rs xs b.fine);
    }

    begun-most : (k : ℕ) → Begun rows (x ∷ xs) k → k ≤ suc (want rs xs).more
    begun-most zero h = omega arith
    begun-most (suc k) h = suc-le-suc (want-longest rs xs h.others k (le_of_suc-le-suc h.inside) (b.to-match (take k xs ++ h.others) h.sequence))

    stop : (c : ℕ) → (want rs xs).tag ≡ damage c → StoppedBy rows (x ∷ xs) (suc (want rs xs).more) c
    stop c e = ⊎_elim (λ s. inl (suc-le-suc s.0, s.1)) (λ s. inr (ap suc s.0, s.1)) (want-stopped rs xs c e)

    stands-begun : (t : Kind) → (want rs xs).tag ≡ t → Stands rows (x ∷ xs) cause (suc (want rs xs).more) t
    stands-begun whole e = record { inside = suc-le-suc (want_fits rs xs); sequence = b.of-match (take (want rs xs).more xs) (match_of_want rs xs e) }
    stands-begun (damage c) e = record {
      none = λ k h. whole_no_damage c (sym (whole-read k h).1 ∙ e);
      part = inl (record { begun = begun-read; longest = begun-most }, stop c e);
    }

    only-begun : (n : ℕ) (t : Kind) → Stands rows (x ∷ xs) cause n t → (n ≡ suc (want rs xs).more) × (t ≡ (want rs xs).tag)
    only-begun n whole h = let w = whole-read n h in (w.0, sym w.1)
    only-begun n (damage c) h = ⊎_elim
        (λ l.
        let e : n ≡ suc (want rs xs).more = le_antisymm (begun-most n l.0.begun) (l.0.longest _ begun-read) in
        (e, sym (is-damage (rw e at l.1) (want rs xs).tag refl)))
        (λ o. absurd (o.begins-none _ begun-read))
        h.part
      where
        is-damage : StoppedBy rows (x ∷ xs) (suc (want rs xs).more) c → (t : Kind) → (want rs xs).tag ≡ t → t ≡ damage c
        is-damage s whole e = absurd (h.none _ (stands-begun whole e))
        is-damage s (damage d) e = ap damage (one-stop rows (x ∷ xs) (suc (want rs xs).more) d c (stop d e) s)

  -- x begins none
  module _ (a : Alone rows x) where
    none-begun : (k : ℕ) → Begun rows (x ∷ xs) k → ⊥
    none-begun zero h = omega (arith, h.some)
    none-begun (suc k) h = a.no-sequence (take k xs ++ h.others) h.sequence

    none-whole : (k : ℕ) → Whole rows (x ∷ xs) k → ⊥
    none-whole zero h = no_empty rows h.sequence
    none-whole (suc k) h = a.no-sequence (take k xs) h.sequence

    only-alone : (n : ℕ) (t : Kind) → Stands rows (x ∷ xs) cause n t → (n ≡ 1) × (t ≡ damage (cause x))
    only-alone n whole h = absurd (none-whole n h)
    only-alone n (damage c) h = ⊎_elim (λ l. absurd (none-begun n l.0.begun)) (λ o. (o.one, ap damage o.own)) h.part

  -- the segment that the reader says stands there, and no other does
  abbrev StandsRead : Look Kind → Type 0
  StandsRead l = Stands rows (x ∷ xs) cause (suc l.more) l.tag

  abbrev OnlyRead : Look Kind → Type 0
  OnlyRead l = (n : ℕ) (t : Kind) → Stands rows (x ∷ xs) cause n t → (n ≡ suc l.more) × (t ≡ l.tag)

  stands-lead : Lead rows x → StandsRead (read rows cause x xs) × OnlyRead (read rows cause x xs)
  stands-lead (begins rs b) = rw b.wanted (stands-begun rs b (want rs xs).tag refl, only-begun rs b)
  stands-lead (alone a) = rw a.unwanted (record { none = none-whole a; part = inr (record { one = refl; begins-none = none-begun a; own = refl }) }, only-alone a)

  -- what is not sure begins a sequence
  begun-lead : Lead rows x → (read rows cause x xs).sure ≡ false → Begun rows (x ∷ xs) (suc (read rows cause x xs).more)
  begun-lead (begins rs b) e = rw b.wanted (begun-read rs b)
  begun-lead (alone a) e = absurd (true≢false (rw a.unwanted at e))

module _ (rows : List Row) (cause : ℕ → ℕ) (s : Sound zero rows) where
  -- a lone element is one with which no part begins a sequence
  pub lone-begins-none : (x : ℕ) (xs : List ℕ) → wanted_behind rows x ≡ none → (k : ℕ) → Begun rows (x ∷ xs) k → ⊥
  lone-begins-none x xs e = go (lead_of zero rows x s)
    where
      go : Lead rows x → (k : ℕ) → Begun rows (x ∷ xs) k → ⊥
      go (begins rs b) k h = none_no_some rs (sym e ∙ b.wanted)
      go (alone a) k h = none-begun rows cause x xs a k h

  pub begins-none-lone : (x : ℕ) (xs : List ℕ) → ((k : ℕ) → Begun rows (x ∷ xs) k → ⊥) → wanted_behind rows x ≡ none
  begins-none-lone x xs n = go (lead_of zero rows x s)
    where
      go : Lead rows x → wanted_behind rows x ≡ none
      go (begins rs b) = absurd (n _ (begun-read rows cause x xs rs b))
      go (alone a) = a.unwanted

  pub stands_read : (x : ℕ) (xs : List ℕ) → Stands rows (x ∷ xs) cause (suc (read rows cause x xs).more) (read rows cause x xs).tag
  stands_read x xs = (stands-lead rows cause x xs (lead_of zero rows x s)).0

  pub only-read : (x : ℕ) (xs : List ℕ) (n : ℕ) (t : Kind) → Stands rows (x ∷ xs) cause n t → (n ≡ suc (read rows cause x xs).more) × (t ≡ (read rows cause x xs).tag)
  only-read x xs = (stands-lead rows cause x xs (lead_of zero rows x s)).1

  pub unsure-begun : (x : ℕ) (xs : List ℕ) → (read rows cause x xs).sure ≡ false → Begun rows (x ∷ xs) (suc (read rows cause x xs).more)
  unsure-begun x xs = begun-lead rows cause x xs (lead_of zero rows x s)

  same : (x : ℕ) (xs : List ℕ) (g : Segment Kind) (ss : List (Segment Kind)) → Divides rows cause (x ∷ xs) (g ∷ ss)
      → ss ≡ cut (read rows cause) (drop (length g.tail) xs) → g ∷ ss ≡ cut (read rows cause) (x ∷ xs)
  same x xs g ss d ih =
      let o = only-read x xs (size g) g.tag d.1 in
      let n : length g.tail ≡ (read rows cause x xs).more = omega (arith, o.0) in
      let h : g.head ≡ x = cc d.0 in
      let t : g.tail ≡ take (read rows cause x xs).more xs = cc (d.0, n) in
      let r : ss ≡ cut (read rows cause) (drop (read rows cause x xs).more xs) = rw n at ih in
      let e : g ≡ first (read rows cause) x xs = λ i. record { head = h i; tail = t i; tag = o.1 i } in
      ap₂ ◌∷◌ e r ∙ sym (cut-cons (read rows cause) x xs)

  -- ANY TEXT DIVIDES IN EXACTLY ONE WAY
  pub cut-divides : (text : List ℕ) → Divides rows cause text (cut (read rows cause) text)
  cut-divides = by-segments (read rows cause) (λ (text : List ℕ). Divides rows cause text (cut (read rows cause) text))
      (rw (cut-nil (read rows cause)) tt)
      (λ x xs ih. rw (cut-cons (read rows cause) x xs, length-take-le (read rows cause x xs).more xs ((table-division rows cause).fits x xs)) (refl, stands_read x xs, ih))

  pub divides-once : (ss : List (Segment Kind)) (text : List ℕ) → Divides rows cause text ss → ss ≡ cut (read rows cause) text
  divides-once [] [] d = sym (cut-nil (read rows cause))
  divides-once [] (x ∷ xs) d = absurd d
  divides-once (g ∷ ss) [] d = absurd d
  divides-once (g ∷ ss) (x ∷ xs) d = same x xs g ss d (divides-once ss (drop (length g.tail) xs) d.2)
