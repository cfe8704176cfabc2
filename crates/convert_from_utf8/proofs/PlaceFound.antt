-- The place of a number in a table, searched from a place on; in a page it is any at which the number stands.
use mathlib.Core.Path.{◌≡◌, refl, sym, ap, ◌∙◌}
use Prim.Native.Nat.{ℕ, ◌+◌, ◌<◌}
use mathlib.Core.Bool.{cond}
use mathlib.Core.Bool.{true, false}
use mathlib.Core.List.{List}
use lib.ListN.{length, get_or, drop, length-drop}
use lib.Seq.{get_or-drop}
use lib.Dec.{eqb}
use borrow.Author.Tests.{ltb-true, lt-ltb}
use native.Mathlib.Omega.{arith}
use Rattle.theory.proofs.Cases.{split}
use Rattle.std.specs.Prelude.{Option, Some, None}
use Rattle.std.specs.List.{position_from, position_or_len}
use Rattle.std.proofs.lemmas.List.Recursion.{is_position_or_len}
use Rattle.std.proofs.lemmas.Iterator.Adapters.{position_from-zero}
use Rattle.page.specs.Paged.{place_of, has, IsPage}
use Rattle.convert_from_utf8.specs.Inside.Held.{place_in}
use Rattle.page.proofs.PlaceInTable.{stands, only-place}

module _ (c : ℕ) where
  -- ---- the search ends at the place

  place-first : (table : List ℕ) → place_of c table ≡ position_or_len (λ n. eqb n c) table
  place-first = is_position_or_len (place_of c) (λ n. eqb n c) refl
      (λ x xs. ap (λ (k : ℕ). cond (eqb x c) 0 k) (omega arith))

  pub position-is : (table : List ℕ) → position_from (λ n. eqb n c) 0 table ≡ place_in c table
  position-is table = sym (position_from-zero (λ n. eqb n c) table) ∙ rw (← place-first table)

  -- and there the number stands
  pub in-place : (table : List ℕ) (n : ℕ) → Some n ≡ place_in c table → (n < length table) × (n ≡ place_of c table)
  in-place table n e = split (has table c)
      (λ t. let i : n ≡ place_of c table = cc (rw t at e) in (rw (← i) at (ltb-true (place_of c table) (length table) t), i))
      (λ t. absurd (some_none (rw t at e)))
    where
      some_none : ◌≡◌ {A = Option ℕ} (Some n) None → ⊥
      some_none e = cc

  pub has-place : (table : List ℕ) (n : ℕ) → Some n ≡ place_in c table → has table c ≡ true
  has-place table n e = lt-ltb (place_of c table) (length table) (omega (arith, (in-place table n e).0, (in-place table n e).1))

  pub lacks-place : (table : List ℕ) → None ≡ place_in c table → has table c ≡ false
  lacks-place table e = split (has table c) (λ t. absurd (none_some (rw t at e))) (λ t. t)
    where
      none_some : ◌≡◌ {A = Option ℕ} None (Some (place_of c table)) → ⊥
      none_some e = cc

module _ (c : ℕ) (table : List ℕ) where
  -- ---- in a page

  module _ (p : IsPage table) where
    pub found-any : (at : ℕ) → at < 256 → get_or table at 0 ≡ c → at ≡ place_of c table
    found-any at h e = sym (only-place table p at h) ∙ ap (λ (n : ℕ). place_of n table) e

    pub found_from : (at : ℕ) → at + place_of c (drop at table) < 256 → at + place_of c (drop at table) ≡ place_of c table
    found_from at h =
        let k : ℕ = place_of c (drop at table) in
        let s : get_or (drop at table) k 0 ≡ c = stands c (drop at table) (omega (arith, h, length-drop at table, p.long)) in
        found-any (at + k) h (sym (get_or-drop at table k 0) ∙ s)

    pub found-in : (at : ℕ) → at < 256 → get_or table at 0 ≡ c → Some at ≡ place_in c table
    found-in at h e = rw (← found-any at h e, lt-ltb at (length table) (omega (arith, p.long)))

    pub found-behind : (at n : ℕ) → at < 256 → Some n ≡ place_in c (drop at table) → (at + n < 256) × (Some (at + n) ≡ place_in c table)
    found-behind at n l e =
        let i = in-place c (drop at table) n e in
        let k : at + n < 256 = omega (arith, i.0, length-drop at table, p.long) in
        let j : at + n ≡ place_of c table = rw i.1 (found_from at (rw (← i.1) k)) in
        (k, rw (← j, lt-ltb (at + n) (length table) (omega (arith, p.long))))
