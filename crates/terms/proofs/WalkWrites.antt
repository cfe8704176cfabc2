-- The walk that writes, whatever is written: what it has counted and written when it has come to a place of the text.
use mathlib.Core.Path.{◌≡◌, refl, sym, ap, subst, ◌∙◌}
use Prim.Native.Nat.{ℕ, suc, ◌+◌, ◌-◌, ◌≤◌, ◌<◌}
use mathlib.Core.Bool.{true}
use mathlib.Core.List.{List, [], ◌∷◌, ◌++◌, append_assoc, append-nil}
use lib.ListN.{length, take, drop, length-append, length-drop, take-append-drop, drop_of_length-le}
use lib.Seq.{drop-drop, take_at, drop_at, length-take-le, sets, sets-eq}
use native.Mathlib.Omega.{arith}
use Rattle.theory.specs.Reader.{Segment, cut}
use Rattle.theory.specs.Reader as reader
use Rattle.theory.specs.Table.{Kind}
use Rattle.theory.specs.Tally.{size}
use Rattle.theory.proofs.Divisions.{first-size, cut-nil, cut-cons}
use Rattle.terms.specs.Form.{is_scalar, Form, point_of, converted, point_says}
use Rattle.terms.proofs.WalkBySegments.{part_is}
use Rattle.terms.proofs.FaithfulForms.{Faithful}
use Rattle.terms.proofs.ConvertsBack.{point-scalar}

-- A TURN at a place: the code point there takes n elements, and the walk goes on behind them
pub record Met (F : Form) (text : List ℕ) (at n c : ℕ) : Type 0 where
  pub segment : Segment Kind
  pub point-is : point_of F segment ≡ c
  pub scalar : is_scalar c ≡ true
  pub some : 0 < n
  pub inside : at + n ≤ length text
  pub cuts : cut F.look (drop at text) ≡ segment ∷ cut F.look (drop (at + n) text)

pub met : {F : Form} → Faithful F → (text : List ℕ) (at : ℕ) → at < length text → (n c : ℕ)
    → c ∷ n ∷ [] ≡ point_says F (take (length text - at) (drop at text)) → Met F text at n c
met {F} f text at h n c told = go (drop at text) refl (rw part_is at told)
  where
    go : (t : List ℕ) → drop at text ≡ t → c ∷ n ∷ [] ≡ point_says F t → Met F text at n c
    go [] e q = let z : length text - at ≡ 0 = sym (length-drop at text) ∙ ap length e in absurd (omega arith)
    go (x ∷ xs) e q =
        let l : length text - at ≡ length (x ∷ xs) = sym (length-drop at text) ∙ ap length e in
        let s : n ≡ size (reader.first F.look x xs) = cc in
        let g = f.reads.division.fits x xs in
        let m : n ≡ suc (F.look x xs).more = s ∙ first-size f.reads.division x xs in
        let p : point_of F (reader.first F.look x xs) ≡ c = cc in
        record {
          segment = reader.first F.look x xs;
          point-is = p;
          scalar = rw (← p) (point-scalar f.reads x xs);
          some = omega arith;
          inside = omega arith;
          cuts = rw (← drop-drop n at text, e, m) (cut-cons F.look x xs);
        }

-- ---- the part from place n on, as `&text[n..]` and `&mut out[n..]` lend it

abbrev pub lent : List ℕ → ℕ → List ℕ
lent out n = take (length out - n) (drop n out)

pub lent-long : (text : List ℕ) (n : ℕ) → length (lent text n) ≡ length text - n
lent-long text n = ap length (part_is text n) ∙ length-drop n text

pub lent-there : (text part : List ℕ) (at : ℕ) → part ≡ drop at text → (n : ℕ) → lent part n ≡ drop (at + n) text
lent-there text part at e n = part_is part n ∙ ap (drop n) e ∙ drop-drop n at text

-- behind a segment and the run that follows it
module _ (text : List ℕ) (seg run : ℕ) where
  pub lent_both : lent (lent text seg) run ≡ drop run (drop seg text)
  lent_both = part_is (lent text seg) run ∙ ap (drop run) (part_is text seg)

  pub lent-less : seg ≤ length text → 0 < seg → length (lent (lent text seg) run) < length text
  lent-less h k = rw lent_both (omega (arith, length-drop run (drop seg text), length-drop seg text))

-- ---- an output whose part was lent, and came back with some places written at its start

abbrev pub back : List ℕ → ℕ → List ℕ → List ℕ
back out n ys = take n out ++ (ys ++ drop (length out - n) (drop n out))

pub back_is : (out : List ℕ) (n : ℕ) (ys : List ℕ) → back out n ys ≡ take n out ++ ys
back_is out n ys =
    let l : length (drop n out) ≤ length out - n = omega (arith, length-drop n out) in
    rw (drop_of_length-le (drop n out) l, append-nil)

-- so many places were written from the start of an output, and the others keep what they held
abbrev pub Put : List ℕ → List ℕ → List ℕ → Type 0
Put vs out out' = out' ≡ vs ++ drop (length vs) out

-- ---- A WALK over so many elements, of which those from each place on write what is left there

module _ (left : ℕ → List ℕ) (elements : ℕ) where
  -- a stride at a place: k elements are passed over, and they write vs
  pub record Passed (at k : ℕ) (vs : List ℕ) : Type 0 where
    pub inside : at + k ≤ elements
    pub same : left at ≡ vs ++ left (at + k)

  -- so much is counted, and the rest adds what is left of it
  pub record Summed (at total : ℕ) : Type 0 where
    pub inside : at ≤ elements
    pub same : total + length (left at) ≡ length (left 0)

  pub summed-start : Summed 0 0
  summed-start = record { inside = omega arith; same = omega arith }

  pub summed-on : (at total k : ℕ) (vs : List ℕ) → Summed at total → Passed at k vs → Summed (at + k) (total + length vs)
  summed-on at total k vs c p = record { inside = p.inside; same = omega (arith, c.same, ap length p.same, length-append vs (left (at + k))) }

  pub summed-end : (at total : ℕ) → Summed at total → left at ≡ [] → total ≡ length (left 0)
  summed-end at total c e = omega (arith, c.same, ap length e)

  -- so much is written into an output, and the rest writes what is left
  module _ (out₀ : List ℕ) where
    pub record Filled (out : List ℕ) (at n : ℕ) : Type 0 where
      pub inside : at ≤ elements
      pub long : length out ≡ length out₀
      pub within : n ≤ length out₀
      pub form : take n out ++ left at ≡ left 0
      pub kept : drop n out ≡ drop n out₀

    pub filled-start : Filled out₀ 0 0
    filled-start = record { inside = omega arith; long = refl; within = omega arith; form = refl; kept = refl }

    module _ (out : List ℕ) (at n : ℕ) (w : Filled out at n) where
      placed : length (take n out) ≡ n
      placed = length-take-le n out (omega (arith, w.long, w.within))

      total : n + length (left at) ≡ length (left 0)
      total = omega (arith, placed, ap length w.form, length-append (take n out) (left at))

      pub filled-end : left at ≡ [] → (n ≡ length (left 0)) × (out ≡ left 0 ++ drop (length (left 0)) out₀)
      filled-end e =
          let l : n ≡ length (left 0) = omega (arith, total, ap length e) in
          let t : take n out ≡ left 0 = sym (append-nil (take n out)) ∙ rw e at w.form in
          (l, sym (take-append-drop n out) ∙ rw (t, w.kept, l))

      module _ (room : length (left 0) ≤ length out₀) (k : ℕ) (vs : List ℕ) (p : Passed at k vs) where
        -- there is room for what the stride writes in the part that is lent
        pub filled-room : length vs ≤ length (lent out n)
        filled-room = omega (arith, total, w.long, ap length p.same, length-append vs (left (at + k)), ap length (part_is out n), length-drop n out)

        front : List ℕ
        front = take n out ++ vs

        front_long : length front ≡ n + length vs
        unfolding front
        front_long = length-append (take n out) vs ∙ ap (λ (i : ℕ). i + length vs) placed

        back-put : (ys : List ℕ) → Put vs (lent out n) ys → back out n ys ≡ front ++ drop (n + length vs) out
        unfolding front
        back-put ys q = back_is out n ys ∙ rw (q, part_is out n, drop-drop (length vs) n out) (sym (append_assoc (take n out) vs (drop (n + length vs) out)))

        kept_next : drop (n + length vs) out ≡ drop (n + length vs) out₀
        kept_next = rw (← drop-drop (length vs) n out, w.kept, drop-drop)

        form-next : front ++ left (at + k) ≡ left 0
        unfolding front
        form-next = rw (append_assoc, ← p.same) w.form

        pub filled_on : (ys : List ℕ) → Put vs (lent out n) ys → Filled (back out n ys) (at + k) (n + length vs)
        filled_on ys q =
            let i : ℕ = n + length vs in
            let r : i ≤ length out₀ = omega (arith, room, total, ap length p.same, length-append vs (left (at + k))) in
            record {
              inside = p.inside;
              long = rw (back-put ys q, length-append, front_long) (omega (arith, w.long, length-drop i out));
              within = r;
              form = rw (back-put ys q, take_at front (drop i out) i front_long) form-next;
              kept = rw (back-put ys q, drop_at front (drop i out) i front_long) kept_next;
            }

        -- the same, stored element by element
        pub filled-sets : Filled (sets out n vs) (at + k) (n + length vs)
        unfolding front
        filled-sets =
            let r : length vs ≤ length (drop n out) = rw (part_is out n) at filled-room in
            let h : n + length vs ≤ length out = omega (arith, r, length-drop n out, w.long, w.within) in
            let e : back out n (vs ++ drop (length vs) (lent out n)) ≡ sets out n vs =
            back-put (vs ++ drop (length vs) (lent out n)) refl ∙ sym (sets-eq vs out n h) in
            subst (λ (o : List ℕ). Filled o (at + k) (n + length vs)) e (filled_on (vs ++ drop (length vs) (lent out n)) refl)

-- ---- the walk of a conversion, code point by code point

module _ (F G : Form) (text : List ℕ) where
  abbrev pub left : ℕ → List ℕ
  left at = converted F G (drop at text)

  pub left_end : (at : ℕ) → length text ≤ at → left at ≡ []
  left_end at h = rw (drop_of_length-le text h, cut-nil)

  pub passed : (at n c : ℕ) → Met F text at n c → Passed left (length text) at n (G.write c)
  passed at n c m = record { inside = m.inside; same = rw (m.cuts, m.point-is) }

  abbrev pub Counted : ℕ → ℕ → Type 0
  Counted = Summed left (length text)

  pub counted_start : Counted 0 0
  counted_start = summed-start left (length text)

  pub counted_next : (at total n c : ℕ) → Counted at total → Met F text at n c → Counted (at + n) (total + length (G.write c))
  counted_next at total n c k m = summed-on left (length text) at total n (G.write c) k (passed at n c m)

  pub counted-end : (at total : ℕ) → Counted at total → length text ≤ at → total ≡ length (converted F G text)
  counted-end at total k h = summed-end left (length text) at total k (left_end at h)

  module _ (out₀ : List ℕ) where
    abbrev pub Wrote : List ℕ → ℕ → ℕ → Type 0
    Wrote = Filled left (length text) out₀

    pub wrote-start : Wrote out₀ 0 0
    wrote-start = filled-start left (length text) out₀

    module _ (out : List ℕ) (at n : ℕ) (w : Wrote out at n) where
      pub wrote-end : length text ≤ at → (n ≡ length (converted F G text)) × (out ≡ converted F G text ++ drop (length (converted F G text)) out₀)
      wrote-end h = filled-end left (length text) out₀ out at n w (left_end at h)

      module _ (room : length (converted F G text) ≤ length out₀) (k c : ℕ) (m : Met F text at k c) where
        pub wrote-room : length (G.write c) ≤ length (lent out n)
        wrote-room = filled-room left (length text) out₀ out at n w room k (G.write c) (passed at k c m)

        pub wrote-next : (ys : List ℕ) → Put (G.write c) (lent out n) ys → Wrote (back out n ys) (at + k) (n + length (G.write c))
        wrote-next = filled_on left (length text) out₀ out at n w room k (G.write c) (passed at k c m)
