-- A walk over a text in passes, of which each reads some of the text and counts or writes what that takes, over any forms.
use mathlib.Core.Path.{◌≡◌, sym, ap, ◌∙◌}
use Prim.Native.Nat.{ℕ, ◌+◌, ◌-◌, ◌≤◌, ◌<◌}
use native.Mathlib.Nat.{zero-add}
use mathlib.Core.List.{List, [], ◌∷◌, ◌++◌, append_assoc}
use lib.ListN.{length, take, drop, length-append, length-drop, take-append-drop}
use lib.Seq.{drop-drop, take_at, drop_at, length-take-le}
use native.Mathlib.Omega.{arith}
use Rattle.terms.specs.Form.{Form, converted, point_says}
use Rattle.terms.proofs.FaithfulForms.{Faithful}
use Rattle.terms.proofs.WalkBySegments.{part_is}
use Rattle.terms.proofs.WalkWrites.{Met, met, left_end, lent, back, back_is, Wrote}
use Rattle.convert_point.specs.Puts.{Puts}
use Rattle.convert_point.specs.Inside.Passes.{Passes, PassesTo}

-- ---- one code point, as a pass

module _ {F : Form} (f : Faithful F) (G : Form) (text : List ℕ) (some : 0 < length text) (n c : ℕ) (told : c ∷ n ∷ [] ≡ point_says F text) where
  stands : Met F text 0 n c
  stands = met f text 0 some n c (told ∙ ap (point_says F) (sym (part_is text 0)))

  point-parted : converted F G text ≡ G.write c ++ converted F G (drop n text)
  point-parted = rw (stands.cuts, stands.point-is, zero-add)

  pub point-room : (out : List ℕ) → length (converted F G text) ≤ length out → length (G.write c) ≤ length out
  point-room out h = omega (arith, ap length point-parted, length-append (G.write c) (converted F G (drop n text)))

  pub point-passes : (out out' : List ℕ) (places : ℕ) → Puts (G.write c) out out' places → PassesTo F G text out out' n places
  point-passes out out' places p = record {
    passes = record { some = stands.some; inside = omega (arith, stands.inside); form = G.write c; count = p.count; parted = point-parted };
    puts = p;
  }

-- ---- the need: so much of the text was read, and takes so many places

module _ (F G : Form) (text : List ℕ) where
  pub record Passed (at places : ℕ) : Type 0 where
    pub inside : at ≤ length text
    pub form : List ℕ
    pub count : places ≡ length form
    pub parted : converted F G text ≡ form ++ converted F G (drop at text)

  module _ (at places : ℕ) (p : Passed at places) where
    -- no more than the whole
    pub passed-few : places ≤ length (converted F G text)
    passed-few = omega (arith, p.count, ap length p.parted, length-append p.form (converted F G (drop at text)))

    pub passed_on : (n : ℕ) (vs : List ℕ) → at + n ≤ length text → converted F G (drop at text) ≡ vs ++ converted F G (drop (at + n) text)
        → Passed (at + n) (places + length vs)
    passed_on n vs h e = record {
      inside = h;
      form = p.form ++ vs;
      count = rw (length-append, ← p.count);
      parted = p.parted ∙ rw e (sym (append_assoc p.form vs (converted F G (drop (at + n) text))));
    }

    pub passed-next : (n c : ℕ) → Met F text at n c → Passed (at + n) (places + length (G.write c))
    passed-next n c m = passed_on n (G.write c) m.inside (rw (m.cuts, m.point-is))

    pub passed-pass : (n more : ℕ) → Passes F G (drop at text) n more → Passed (at + n) (places + more)
    passed-pass n more q =
        rw q.count (passed_on n q.form (omega (arith, p.inside, q.inside, length-drop at text)) (rw (← drop-drop n at text) q.parted))

    pub passed-passes : 0 < at → Passes F G text at places
    passed-passes h = record { some = h; inside = p.inside; form = p.form; count = p.count; parted = p.parted }

    pub passed-end : length text ≤ at → places ≡ length (converted F G text)
    passed-end h = rw (p.parted, left_end F G text at h, length-append) (omega (arith, p.count))

-- ---- the writing

module _ (F G : Form) (text out₀ out : List ℕ) (at n : ℕ) (w : Wrote F G text out₀ out at n) where
  placed : length (take n out) ≡ n
  placed = length-take-le n out (omega (arith, w.long, w.within))

  -- what was written so far, as a pass
  pub wrote-passes : 0 < at → PassesTo F G text out₀ out at n
  wrote-passes h = record {
    passes = record { some = h; inside = w.inside; form = take n out; count = sym placed; parted = sym w.form };
    puts = record { count = sym placed; output = rw placed (sym (take-append-drop n out) ∙ rw w.kept) };
  }

  total : n + length (converted F G (drop at text)) ≡ length (converted F G text)
  total = omega (arith, placed, ap length w.form, length-append (take n out) (converted F G (drop at text)))

  module _ (room : length (converted F G text) ≤ length out₀) where
    -- there is room for the rest in the part that is lent
    pub rest-room : length (converted F G (take (length text - at) (drop at text))) ≤ length (lent out n)
    rest-room = rw part_is (omega (arith, room, total, w.long, ap length (part_is out n), length-drop n out))

    module _ (ys : List ℕ) (read places : ℕ) (q : PassesTo F G (take (length text - at) (drop at text)) (lent out n) ys read places) where
      vs : List ℕ
      vs = q.passes.form

      front : List ℕ
      front = take n out ++ vs

      parted : converted F G (drop at text) ≡ vs ++ converted F G (drop (at + read) text)
      unfolding vs
      parted = rw (← drop-drop read at text) (rw part_is at q.passes.parted)

      front_long : length front ≡ n + places
      unfolding front vs
      front_long = length-append (take n out) q.passes.form ∙ rw (placed, q.passes.count)

      back-put : back out n ys ≡ front ++ drop (n + places) out
      unfolding front vs
      back-put =
          let o : ys ≡ q.passes.form ++ drop places (drop n out) =
          q.puts.output
          ∙ ap (λ (k : ℕ). q.passes.form ++ drop k (lent out n)) (sym q.passes.count)
          ∙ ap (λ (l : List ℕ). q.passes.form ++ drop places l) (part_is out n) in
          back_is out n ys
          ∙ ap (λ (r : List ℕ). take n out ++ r) (o ∙ ap (λ (r : List ℕ). q.passes.form ++ r) (drop-drop places n out))
          ∙ sym (append_assoc (take n out) q.passes.form (drop (n + places) out))

      pub wrote-pass : Wrote F G text out₀ (back out n ys) (at + read) (n + places)
      unfolding front vs
      wrote-pass =
          let i : ℕ = n + places in
          let r : i ≤ length out₀ = omega (arith, room, total, ap length parted, length-append q.passes.form (converted F G (drop (at + read) text)), q.passes.count) in
          let l : at + read ≤ length text = omega (arith, w.inside, q.passes.inside, ap length (part_is text at), length-drop at text) in
          record {
            inside = l;
            long = rw (back-put, length-append, front_long) (omega (arith, w.long, length-drop i out));
            within = r;
            form = rw (back-put, take_at front (drop i out) i front_long, append_assoc, ← parted) w.form;
            kept = rw (back-put, drop_at front (drop i out) i front_long, ← drop-drop places n out, w.kept, drop-drop);
          }
