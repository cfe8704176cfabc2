-- A walk that stores a place more than it takes, and then over it: only the places of the whole form have changed.
use mathlib.Core.Path.{◌≡◌, refl, sym, ap, ◌∙◌}
use Prim.Native.Nat.{ℕ, ◌+◌, ◌-◌, ◌≤◌}
use mathlib.Core.List.{List, [], ◌++◌, append_assoc, append-nil}
use lib.ListN.{length, take, drop, length-append, length-drop, take-append-drop}
use lib.Seq.{drop-drop, take_at, drop_at, length-take-le}
use native.Mathlib.Omega.{arith}
use Rattle.terms.proofs.WalkBySegments.{part_is}
use Rattle.terms.proofs.WalkWrites.{Passed, lent, back, back_is}
use Rattle.convert_from_page.specs.Inside.Store.{Stores}

module _ (left : ℕ → List ℕ) (elements : ℕ) (out₀ : List ℕ) where
  -- so much is written into an output, the rest writes what is left, and the places behind the whole keep what they held
  pub record Stored (out : List ℕ) (at n : ℕ) : Type 0 where
    pub inside : at ≤ elements
    pub long : length out ≡ length out₀
    pub within : n ≤ length out₀
    pub form : take n out ++ left at ≡ left 0
    pub kept : drop (length (left 0)) out ≡ drop (length (left 0)) out₀

  pub stored-start : Stored out₀ 0 0
  stored-start = record { inside = omega arith; long = refl; within = omega arith; form = refl; kept = refl }

  module _ (out : List ℕ) (at n : ℕ) (w : Stored out at n) where
    placed : length (take n out) ≡ n
    placed = length-take-le n out (omega (arith, w.long, w.within))

    total : n + length (left at) ≡ length (left 0)
    total = omega (arith, placed, ap length w.form, length-append (take n out) (left at))

    pub stored-end : left at ≡ [] → (n ≡ length (left 0)) × (out ≡ left 0 ++ drop (length (left 0)) out₀)
    stored-end e =
        let l : n ≡ length (left 0) = omega (arith, total, ap length e) in
        let t : take n out ≡ left 0 = sym (append-nil (take n out)) ∙ rw e at w.form in
        (l, sym (take-append-drop n out) ∙ rw (t, l, w.kept))

    module _ (room : length (left 0) ≤ length out₀) where
      -- there is room for what is left in the part that is lent
      pub stored-room : length (left at) ≤ length (lent out n)
      stored-room = omega (arith, total, room, w.long, ap length (part_is out n), length-drop n out)

      -- some elements are passed over, and what they write is stored, with something more, no further than all that is left
      module _ (k : ℕ) (vs : List ℕ) (p : Passed left elements at k vs) (ys : List ℕ) (put : ℕ) (s : Stores vs (lent out n) ys put)
          (few : length (vs ++ s.over) ≤ length (left at)) where
        front : List ℕ
        front = take n out ++ vs

        front_long : length front ≡ n + length vs
        unfolding front
        front_long = length-append (take n out) vs ∙ ap (λ (i : ℕ). i + length vs) placed

        -- as far as was stored
        reach : ℕ
        reach = n + length (vs ++ s.over)

        back-put : back out n ys ≡ front ++ (s.over ++ drop reach out)
        unfolding front reach
        back-put = back_is out n ys ∙ rw (s.output, part_is out n, drop-drop (length (vs ++ s.over)) n out, append_assoc, append_assoc)

        behind : drop reach (back out n ys) ≡ drop reach out
        unfolding reach
        behind =
            let ws : List ℕ = vs ++ s.over in
            let l : length (take n out ++ ws) ≡ n + length ws = length-append (take n out) ws ∙ ap (λ (i : ℕ). i + length ws) placed in
            let e : back out n ys ≡ (take n out ++ ws) ++ drop reach out
            = back_is out n ys ∙ rw (s.output, part_is out n, drop-drop (length ws) n out) (sym (append_assoc (take n out) ws (drop reach out))) in
            ap (drop reach) e ∙ drop_at (take n out ++ ws) (drop reach out) reach l

        form-next : front ++ left (at + k) ≡ left 0
        unfolding front
        form-next = rw (append_assoc, ← p.same) w.form

        pub stored_on : Stored (back out n ys) (at + k) (n + put)
        unfolding reach
        stored_on =
            let more : ℕ = length (left 0) - reach in
            let m : reach + more ≡ length (left 0) = omega (arith, total, few) in
            rw s.count (record {
              inside = p.inside;
              long = rw (back-put, length-append, front_long, length-append) (omega (arith, w.long, total, few, room, length-drop reach out, length-append vs s.over));
              within = omega (arith, total, few, room, length-append vs s.over);
              form = rw (back-put, take_at front (s.over ++ drop reach out) (n + length vs) front_long) form-next;
              kept = rw (← m, ← drop-drop more reach (back out n ys), behind, drop-drop more reach out, m) w.kept;
            })
