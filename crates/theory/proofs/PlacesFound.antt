-- The laws of places: lookup by any measure, the last place at or before a count, and both in a text that is divided.
use mathlib.Core.Path.{◌≡◌, refl, sym, ap, ◌∙◌}
use Prim.Native.Nat.{ℕ, zero, ◌+◌, ◌≤◌, ◌<◌}
use native.Mathlib.Nat.{le_refl, le_trans, le_of_lt, zero-add}
use mathlib.Core.List.{List, [], ◌∷◌, ◌++◌, append_assoc, append-nil, foldl, foldl-append}
use lib.ListN.{length, drop}
use lib.Dec.{ltb, leb, eqb}
use borrow.Author.Tests.{ltb-true, leb-true, leb-false, eqb-true, lt-ltb, le-ltb, le-leb, lt-leb, eq-eqb}
use native.Mathlib.Omega.{arith}
use Rattle.theory.specs.Reader.{Reader, Segment, first, cut}
use Rattle.theory.specs.Tally.{total, size}
use Rattle.theory.specs.Place.{Ruler, at, inside, past, here, lookup, last, plain, mark}
use Rattle.theory.proofs.Cases.{split}
use Rattle.theory.proofs.Divisions.{Division, total_append, cut-nil, cut-cons, cut-size, cut-drop, first-size}

-- A boundary q of a run of segments that is counted from p: the place behind some of them.
pub record Boundary {K P : Type 0} (step : P → Segment K → P) (p : P) (ss : List (Segment K)) (q : P) : Type 0 where
  pub front : List (Segment K)
  pub behind : List (Segment K)
  pub joined : ss ≡ front ++ behind
  pub place : q ≡ foldl step p front

-- r lies behind q, by one segment at least
pub record Later {K P : Type 0} (step : P → Segment K → P) (q r : P) : Type 0 where
  pub next : Segment K
  pub more : List (Segment K)
  pub place : r ≡ foldl step (step q next) more

-- a measure that never falls from one segment to the next, and one that always rises
abbrev pub NeverFalls : {K P : Type 0} → (P → Segment K → P) → (P → ℕ) → Type 0
NeverFalls {K} {P} step m = (p : P) (s : Segment K) → m p ≤ m (step p s)

abbrev pub Rises : {K P : Type 0} → (P → Segment K → P) → (P → ℕ) → Type 0
Rises {K} {P} step m = (p : P) (s : Segment K) → m p < m (step p s)

not_found : {P X : Type 0} {q : P} → past ≡ at q → X
not_found e = let z : ◌≡◌ {A = ℕ} 0 1 = cc in absurd (omega arith)

module _ {K P : Type 0} (step : P → Segment K → P) where
  -- what holds at a place and is kept by each segment holds at each boundary behind it
  foldl-keeps : (Q : P → Type 0) → ((p : P) (s : Segment K) → Q p → Q (step p s)) → (p : P) (hs : List (Segment K)) → Q p → Q (foldl step p hs)
  foldl-keeps Q keep p [] h = h
  foldl-keeps Q keep p (s ∷ hs) h = foldl-keeps Q keep (step p s) hs (keep p s h)

  pub boundary-keeps : (Q : P → Type 0) → ((p : P) (s : Segment K) → Q p → Q (step p s)) → {p q : P} {ss : List (Segment K)}
      → Boundary step p ss q → Q p → Q q
  boundary-keeps Q keep {p} b h = rw b.place (foldl-keeps Q keep p b.front h)

  pub start-boundary : (p : P) (ss : List (Segment K)) → Boundary step p ss p
  start-boundary p ss = record { front = []; behind = ss; joined = refl; place = refl }

  -- one segment further in front
  boundary-cons : {p q : P} {ss : List (Segment K)} (s : Segment K) → Boundary step (step p s) ss q → Boundary step p (s ∷ ss) q
  boundary-cons s b = record { front = s ∷ b.front; behind = b.behind; joined = ap (λ (r : List (Segment K)). s ∷ r) b.joined; place = b.place }

  -- and one segment further on
  boundary-next : {p q : P} {ss : List (Segment K)} (b : Boundary step p ss q) (s : Segment K) (ts : List (Segment K)) → b.behind ≡ s ∷ ts
      → Boundary step p ss (step q s)
  boundary-next b s ts e = record {
    front = b.front ++ s ∷ [];
    behind = ts;
    joined = rw append_assoc (b.joined ∙ ap (λ (r : List (Segment K)). b.front ++ r) e);
    place = rw foldl-append (ap (λ (r : P). step r s) b.place);
  }

  -- ---- measures

  pub rise-mono : (m : P → ℕ) → Rises step m → NeverFalls step m
  rise-mono m rise p s = le_of_lt (rise p s)

  pub climb : (m : P → ℕ) → NeverFalls step m → (p : P) (hs : List (Segment K)) → m p ≤ m (foldl step p hs)
  climb m mono p hs = foldl-keeps (λ (r : P). m p ≤ m r) (λ r s h. le_trans h (mono r s)) p hs (le_refl (m p))

  pub later-mono : (m : P → ℕ) → NeverFalls step m → {q r : P} → Later step q r → m q ≤ m r
  later-mono m mono {q} l = rw l.place (climb m mono q (l.next ∷ l.more))

  pub later-rise : (m : P → ℕ) → Rises step m → {q r : P} → Later step q r → m q < m r
  later-rise m rise {q} l = rw l.place (omega (arith, rise q l.next, climb m (rise-mono m rise) (step q l.next) l.more))

  module _ (m : P → ℕ) where
    -- ---- lookup

    -- every place in front of the last of them counts less than the offset
    abbrev pub Before : ℕ → P → List (Segment K) → Type 0
    Before o p [] = Unit {0}
    Before o p (s ∷ ss) = (m p < o) × Before o (step p s) ss

    pub before-mono : NeverFalls step m → (o : ℕ) (p : P) (hs : List (Segment K)) → m (foldl step p hs) < o → Before o p hs
    before-mono mono o p [] h = tt
    before-mono mono o p (s ∷ hs) h = (omega (arith, climb m mono p (s ∷ hs)), before-mono mono o (step p s) hs h)

    pub before-rise : Rises step m → (o : ℕ) (p : P) (hs : List (Segment K)) → m (foldl step p hs) ≤ o → Before o p hs
    before-rise rise o p [] h = tt
    before-rise rise o p (s ∷ hs) h =
        (omega (arith, rise p s, climb m (rise-mono m rise) (step p s) hs), before-rise rise o (step p s) hs h)

    pub lookup-from : (o : ℕ) (p : P) (hs bs : List (Segment K)) → Before o p hs
        → lookup step m o p (hs ++ bs) ≡ lookup step m o (foldl step p hs) bs
    lookup-from o p [] bs h = refl
    lookup-from o p (s ∷ hs) bs h = rw (lt-ltb (m p) o h.0) (lookup-from o (step p s) hs bs h.1)

    pub lookup-past : NeverFalls step m → (o : ℕ) (p : P) (ss : List (Segment K)) → m (foldl step p ss) < o → lookup step m o p ss ≡ past
    lookup-past mono o p ss h =
        ap (lookup step m o p) (sym (append-nil ss))
        ∙ lookup-from o p ss [] (before-mono mono o p ss h)
        ∙ rw (lt-ltb (m (foldl step p ss)) o h)

    lookup-here : (p : P) (ss : List (Segment K)) → lookup step m (m p) p ss ≡ at p
    lookup-here p [] = rw (le-ltb (m p) (m p) (le_refl (m p)), eq-eqb (m p) (m p) refl)
    lookup-here p (s ∷ ss) = rw (le-ltb (m p) (m p) (le_refl (m p)), eq-eqb (m p) (m p) refl)

    -- A PLACE IS FOUND BY ITS OWN COUNT, by a measure that rises
    pub lookup-place : Rises step m → {p q : P} {ss : List (Segment K)} → Boundary step p ss q → lookup step m (m q) p ss ≡ at q
    lookup-place rise {p} {q} b =
        let h : m (foldl step p b.front) ≤ m q = rw b.place (le_refl (m (foldl step p b.front))) in
        let to-q : lookup step m (m q) p (b.front ++ b.behind) ≡ lookup step m (m q) q b.behind
        = lookup-from (m q) p b.front b.behind (before-rise rise (m q) p b.front h) ∙ rw (← b.place) in
        rw b.joined (to-q ∙ lookup-here q b.behind)

    -- what is found counts the offset
    here-at : (o : ℕ) (p q : P) → here step m o p ≡ at q → (p ≡ q) × (m p ≡ o)
    here-at o p q h = split (eqb (m p) o)
        (λ e. let i : at p ≡ at q = rw e at h in (cc, eqb-true (m p) o e))
        (λ e. let i : inside ≡ at q = rw e at h in (cc, cc))

    pub found-count : (o : ℕ) (p : P) (ss : List (Segment K)) (q : P) → lookup step m o p ss ≡ at q → m q ≡ o
    found-count o p [] q h = split (ltb (m p) o)
        (λ e. not_found (rw e at h))
        (λ e. let i = here-at o p q (rw e at h) in rw (← i.0) i.1)
    found-count o p (s ∷ ss) q h = split (ltb (m p) o)
        (λ e. found-count o (step p s) ss q (rw e at h))
        (λ e. let i = here-at o p q (rw e at h) in rw (← i.0) i.1)

    -- EVERY PLACE FOUND IS A BOUNDARY
    pub found-boundary : (o : ℕ) (p : P) (ss : List (Segment K)) (q : P) → lookup step m o p ss ≡ at q → Boundary step p ss q
    found-boundary o p [] q h = split (ltb (m p) o)
        (λ e. not_found (rw e at h))
        (λ e. rw (← (here-at o p q (rw e at h)).0) (start-boundary p []))
    found-boundary o p (s ∷ ss) q h = split (ltb (m p) o)
        (λ e. boundary-cons s (found-boundary o (step p s) ss q (rw e at h)))
        (λ e. rw (← (here-at o p q (rw e at h)).0) (start-boundary p (s ∷ ss)))

    -- IT IS THE FIRST: no boundary that counts the offset or more is in front of it, by any measure that never falls
    pub found_first : (n : P → ℕ) → NeverFalls step n → (o : ℕ) {p r : P} {ss : List (Segment K)} (q : P) → lookup step m o p ss ≡ at q
        → Boundary step p ss r → o ≤ m r → n q ≤ n r
    found_first n mono o {p} q h b k = rw b.place (go p b.front b.behind (rw b.joined at h) (rw b.place at k))
      where
        go : (p : P) (hs bs : List (Segment K)) → lookup step m o p (hs ++ bs) ≡ at q → o ≤ m (foldl step p hs) → n q ≤ n (foldl step p hs)
        go p [] [] h k = rw (here-at o p q (rw (le-ltb (m p) o k) at h)).0 (le_refl (n q))
        go p [] (s ∷ bs) h k = rw (here-at o p q (rw (le-ltb (m p) o k) at h)).0 (le_refl (n q))
        go p (s ∷ hs) bs h k = split (ltb (m p) o)
            (λ e. go (step p s) hs bs (rw e at h) k)
            (λ e. rw (← (here-at o p q (rw e at h)).0) (climb n mono p (s ∷ hs)))

    -- a greater offset is found further on
    pub found-later : (o o' : ℕ) → o < o' → (p : P) (ss : List (Segment K)) (q r : P)
        → lookup step m o p ss ≡ at q → lookup step m o' p ss ≡ at r → Later step q r
    found-later o o' l p [] q r h k = split (ltb (m p) o)
        (λ e. not_found (rw e at h))
        (λ e.
        let c : m p ≡ o = (here-at o p q (rw e at h)).1 in
        not_found (rw (lt-ltb (m p) o' (omega arith)) at k))
    found-later o o' l p (s ∷ ss) q r h k = split (ltb (m p) o)
        (λ e.
        let c : m p < o = ltb-true (m p) o e in
        found-later o o' l (step p s) ss q r (rw e at h) (rw (lt-ltb (m p) o' (omega arith)) at k))
        (λ e.
        let i : (p ≡ q) × (m p ≡ o) = here-at o p q (rw e at h) in
        let b : Boundary step (step p s) ss r = found-boundary o' (step p s) ss r (rw (lt-ltb (m p) o' (omega arith)) at k) in
        rw (← i.0) (record { next = s; more = b.front; place = b.place }))

    -- THE ANSWERS RISE WITH THE OFFSET, by every measure that rises, and by one that never falls they rise or stay
    module _ (o o' : ℕ) (less : o < o') (p : P) (ss : List (Segment K)) (q r : P) (e : lookup step m o p ss ≡ at q)
        (e' : lookup step m o' p ss ≡ at r) where
      pub found-rise : (n : P → ℕ) → Rises step n → n q < n r
      found-rise n rise = later-rise n rise (found-later o o' less p ss q r e e')

      pub found-mono : (n : P → ℕ) → NeverFalls step n → n q ≤ n r
      found-mono n mono = later-mono n mono (found-later o o' less p ss q r e e')

    -- ---- the last place at or before a count

    pub last-over : (most : ℕ) (p : P) (s : Segment K) (ss : List (Segment K)) → m (step p s) ≤ most
        → last step m most p (s ∷ ss) ≡ last step m most (step p s) ss
    last-over most p s ss h = rw (le-leb (m (step p s)) most h)

    pub last-here : (most : ℕ) (p : P) (s : Segment K) (ss : List (Segment K)) → most < m (step p s) → last step m most p (s ∷ ss) ≡ p
    last-here most p s ss h = rw (lt-leb (m (step p s)) most h)

    pub last-le : (most : ℕ) (p : P) (ss : List (Segment K)) → m p ≤ most → m (last step m most p ss) ≤ most
    last-le most p [] h = h
    last-le most p (s ∷ ss) h = split (leb (m (step p s)) most)
        (λ e. rw e (last-le most (step p s) ss (leb-true (m (step p s)) most e)))
        (λ e. rw e h)

    pub last-boundary : (most : ℕ) (p : P) (ss : List (Segment K)) → Boundary step p ss (last step m most p ss)
    last-boundary most p [] = start-boundary p []
    last-boundary most p (s ∷ ss) = split (leb (m (step p s)) most)
        (λ e. rw e (boundary-cons s (last-boundary most (step p s) ss)))
        (λ e. rw e (start-boundary p (s ∷ ss)))

    -- what holds at the start and is kept by each segment holds there
    pub last-keeps : (Q : P → Type 0) → ((p : P) (s : Segment K) → Q p → Q (step p s)) → (most : ℕ) (p : P) (ss : List (Segment K)) → Q p
        → Q (last step m most p ss)
    last-keeps Q keep most p ss = boundary-keeps Q keep (last-boundary most p ss)

    module _ (mono : NeverFalls step m) where
      -- reached from a later start
      pub last-from : (most : ℕ) (p : P) (hs bs : List (Segment K)) → m (foldl step p hs) ≤ most
          → last step m most p (hs ++ bs) ≡ last step m most (foldl step p hs) bs
      last-from most p [] bs h = refl
      last-from most p (s ∷ hs) bs h = last-over most p s (hs ++ bs) (le_trans (climb m mono (step p s) hs) h) ∙ last-from most (step p s) hs bs h

      -- IT IS THE LAST: no boundary at or before `most` is further on, by any measure that never falls
      pub last-most : (n : P → ℕ) → NeverFalls step n → (most : ℕ) {p q : P} {ss : List (Segment K)} → Boundary step p ss q → m q ≤ most
          → n q ≤ n (last step m most p ss)
      last-most n climbs most {p} {q} b h =
          rw (b.joined, last-from most p b.front b.behind (rw b.place at h), ← b.place)
          (last-keeps (λ (r : P). n q ≤ n r) (λ r s g. le_trans g (climbs r s)) most q b.behind (le_refl (n q)))

    module _ (rise : Rises step m) where
      -- from a place that is `most` or more on, nothing changes it
      pub last-stays : (most : ℕ) (p : P) (ss : List (Segment K)) → most ≤ m p → last step m most p ss ≡ p
      last-stays most p [] h = refl
      last-stays most p (s ∷ ss) h = last-here most p s ss (omega (arith, rise p s))

      pub last-append : (most : ℕ) (p : P) (hs bs : List (Segment K)) → most ≤ m (foldl step p hs)
          → last step m most p (hs ++ bs) ≡ last step m most p hs
      last-append most p [] bs h = last-stays most p bs h
      last-append most p (s ∷ hs) bs h = split (leb (m (step p s)) most) (λ e. rw e (last-append most (step p s) hs bs h)) (λ e. rw e)

      -- the next segment would go past it
      pub last-next : (most : ℕ) (p : P) (ss : List (Segment K)) (b : Boundary step p ss (last step m most p ss))
          → (s : Segment K) (ts : List (Segment K)) → b.behind ≡ s ∷ ts → most < m (step (last step m most p ss) s)
      last-next most p ss b s ts e =
          let q : P = last step m most p ss in
          let mono : NeverFalls step m = rise-mono m rise in
          split (leb (m (step q s)) most)
          (λ f.
          let h : m (step q s) ≤ most = leb-true (m (step q s)) most f in
          absurd (omega (arith, rise q s, last-most mono m mono most (boundary-next b s ts e) h)))
          (leb-false (m (step q s)) most)

-- ---- a ruler that counts elements: none at the start, and each segment's size

pub record Measured {K P : Type 0} (R : Ruler K P) : Type 0 where
  pub none : R.bytes R.zeroth ≡ zero
  pub sized : (p : P) (s : Segment K) → R.bytes (R.step p s) ≡ R.bytes p + size s

module _ {K P : Type 0} {R : Ruler K P} (M : Measured R) where
  pub bytes_rise : Rises R.step R.bytes
  bytes_rise p s = rw (M.sized p s) (omega arith)

  pub bytes-mono : NeverFalls R.step R.bytes
  bytes-mono = rise-mono R.step R.bytes bytes_rise

  pub bytes-foldl : (p : P) (hs : List (Segment K)) → R.bytes (foldl R.step p hs) ≡ R.bytes p + total size hs
  bytes-foldl p [] = omega arith
  bytes-foldl p (s ∷ hs) = omega (arith, bytes-foldl (R.step p s) hs, M.sized p s)

-- ---- the places of a text

abbrev pub PlaceOf : {K P : Type 0} → Reader K → Ruler K P → List ℕ → P → Type 0
PlaceOf look R xs q = Boundary R.step R.zeroth (cut look xs) q

module _ {K P : Type 0} (look : Reader K) (R : Ruler K P) (xs : List ℕ) where
  -- EVERY PLACE FOUND IS A PLACE OF THE TEXT
  pub plain-place : (m : P → ℕ) (o : ℕ) (q : P) → plain look R m o xs ≡ at q → PlaceOf look R xs q
  plain-place m o q e = found-boundary R.step m o R.zeroth (cut look xs) q e

  -- THE ANSWERS BY TWO MEASURES UNDO EACH OTHER: what one finds, another that rises finds by its own count
  pub plain-undo : (m n : P → ℕ) → Rises R.step n → (o : ℕ) (q : P) → plain look R m o xs ≡ at q → plain look R n (n q) xs ≡ at q
  plain-undo m n rise o q e = lookup-place R.step n rise (plain-place m o q e)

  pub mark-place : (most : ℕ) → PlaceOf look R xs (mark look R most xs)
  mark-place most = last-boundary R.step R.bytes most R.zeroth (cut look xs)

module _ {K P : Type 0} (look : Reader K) {R : Ruler K P} (M : Measured R) (xs : List ℕ) where
  place-bytes : {q : P} (b : PlaceOf look R xs q) → R.bytes q ≡ total size b.front
  place-bytes b = rw (b.place, bytes-foldl M, M.none, zero-add)

  place-length : {q : P} (b : PlaceOf look R xs q) → length xs ≡ R.bytes q + total size b.behind
  place-length b = rw (← cut-size look xs, b.joined, total_append, place-bytes b)

  pub place_in : {q : P} → PlaceOf look R xs q → R.bytes q ≤ length xs
  place_in b = omega (arith, place-length b)

  pub mark-le : (most : ℕ) → R.bytes (mark look R most xs) ≤ most
  mark-le most = last-le R.step R.bytes most R.zeroth (cut look xs) (rw M.none (omega arith))

  pub mark-zero : mark look R zero xs ≡ R.zeroth
  mark-zero = last-stays R.step R.bytes (bytes_rise M) zero R.zeroth (cut look xs) (omega arith)

-- where no segment has more than `top` elements
module _ {K : Type 0} {look : Reader K} (D : Division look) (top : ℕ) (tops : (x : ℕ) (xs : List ℕ) → (look x xs).more < top) where
  cut-top : (xs : List ℕ) (s : Segment K) (ts : List (Segment K)) → cut look xs ≡ s ∷ ts → size s ≤ top
  cut-top [] s ts e = let z : ◌≡◌ {A = ℕ} 0 1 = cc (cut-nil look) in omega arith
  cut-top (x ∷ xs) s ts e =
      let i : s ≡ first look x xs = cc (cut-cons look x xs) in
      rw i (omega (arith, first-size D x xs, tops x xs))

module _ {K P : Type 0} {look : Reader K} (D : Division look) {R : Ruler K P} (M : Measured R) (xs : List ℕ) where
  -- the segments behind a place are those of the text from it on
  pub place-behind : {q : P} (b : PlaceOf look R xs q) → b.behind ≡ cut look (drop (R.bytes q) xs)
  place-behind b = rw (place-bytes look M xs b) (cut-drop D b.front b.behind xs b.joined)

  -- the last place at or before an element of the text has fewer than `top` elements between
  pub mark-near : (top : ℕ) → ((x : ℕ) (xs : List ℕ) → (look x xs).more < top) → (most : ℕ) → most ≤ length xs
      → most < R.bytes (mark look R most xs) + top
  mark-near top tops most h = go b.behind refl
    where
      q : P
      q = mark look R most xs

      b : PlaceOf look R xs q
      b = mark-place look R xs most

      go : (bs : List (Segment K)) → b.behind ≡ bs → most < R.bytes q + top
      go [] e = omega (arith, tops zero [], place-length look M xs b, ap (total size) e)
      go (s ∷ ts) e =
          omega (
            arith,
            last-next R.step R.bytes (bytes_rise M) most R.zeroth (cut look xs) b s ts e,
            M.sized q s,
            cut-top D top tops (drop (R.bytes q) xs) s ts (sym (place-behind b) ∙ e),
          )
