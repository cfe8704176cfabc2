-- Going on from a place up to which a text stands well, byte by byte, to the first byte that does not.
use Prim.Native.Nat.{ℕ, zero, suc, ◌+◌, ◌-◌, ◌<◌, ◌≤◌}
use native.Mathlib.Numerals.{add-one}
use mathlib.Core.Path.{◌≡◌, refl, sym, ap, ◌∙◌}
use mathlib.Core.Bool.{true, false}
use mathlib.Core.List.{List, [], ◌∷◌}
use native.Mathlib.Omega.{arith}
use borrow.Author.Tests.{lt-ltb, le-ltb}
use lib.ListN.{length, drop, get_or, drop_of_length-le}
use lib.Seq.{drop-cons, get_or-drop}
use Rattle.theory.proofs.Cases.{under}
use Rattle.utf8_scan.specs.Stands.{stands, standing_from, standing, before}
use Rattle.utf8_scan.specs.Inside.Blocks.{Stand, padded, Good}

-- the byte before a place, as the text behind three zeros has it
pub before_is : (text : List ℕ) (at i k : ℕ) → i + k ≡ 3 → before text at k ≡ get_or (padded text) (at + i) 0
before_is text at i k e = under at k
    (λ h. rw (lt-ltb at k h) (sym (zeros (at + i) (omega arith))))
    (λ h.
    let p : 3 + (at - k) ≡ at + i = omega arith in
    rw (le-ltb at k h) (get_or-drop 3 (padded text) (at - k) 0 ∙ ap (λ (j : ℕ). get_or (padded text) j 0) p))
  where
    zeros : (j : ℕ) → j < 3 → get_or (padded text) j 0 ≡ 0
    zeros zero l = refl
    zeros (suc zero) l = refl
    zeros (suc (suc zero)) l = refl
    zeros (suc (suc (suc j))) l = absurd (omega arith)

-- the bytes that stand well, and then those behind the last three of them
from_place : (b3 b2 b1 : ℕ) (text : List ℕ) (n : ℕ) → n ≤ length text → Stand (b3 ∷ b2 ∷ b1 ∷ text) n
    → standing_from b3 b2 b1 text
    ≡ n + standing_from (get_or (b3 ∷ b2 ∷ b1 ∷ text) n 0) (get_or (b3 ∷ b2 ∷ b1 ∷ text) (suc n) 0) (get_or (b3 ∷ b2 ∷ b1 ∷ text) (suc (suc n)) 0) (drop n text)
from_place b3 b2 b1 text zero h s = omega arith
from_place b3 b2 b1 [] (suc n) h s = absurd (omega arith)
from_place b3 b2 b1 (b ∷ bs) (suc n) h s =
    rw (s zero (omega arith)) (omega (arith, from_place b2 b1 b bs n (omega arith) (λ k l. s (suc k) (omega arith))))

-- the walk has come to a place, and these are the three bytes before it
pub record Come (text : List ℕ) (b3 b2 b1 at : ℕ) : Type 0 where
  pub inside : at ≤ length text
  pub same : standing text ≡ at + standing_from b3 b2 b1 (drop at text)

pub come_start : (text : List ℕ) (at : ℕ) → Good text at → Come text (before text at 3) (before text at 2) (before text at 1) at
come_start text at g =
    let z : at + 0 ≡ at = omega arith in
    let o : at + 1 ≡ suc at = omega arith in
    let t : at + 2 ≡ suc (suc at) = omega arith in
    record {
      inside = g.inside;
      same = rw (before_is text at 0 3 refl, before_is text at 1 2 refl, before_is text at 2 1 refl, z, o, t) (from_place 0 0 0 text at g.inside g.stand);
    }

module _ (text : List ℕ) (b3 b2 b1 at : ℕ) (o : Come text b3 b2 b1 at) where
  -- the end of the text
  pub come-end : length text ≤ at → at ≡ standing text
  come-end h =
      let e : standing_from b3 b2 b1 (drop at text) ≡ 0 = rw (drop_of_length-le text h) in
      omega (arith, o.same)

  module _ (h : at < length text) where
    -- the first byte that does not stand well
    pub come-stop : stands b3 b2 b1 (get_or text at 0) ≡ false → at ≡ standing text
    come-stop s =
        let e : standing_from b3 b2 b1 (drop at text) ≡ 0 = rw (drop-cons text at 0 h, s) in
        omega (arith, o.same)

    -- a byte that does
    pub come-next : stands b3 b2 b1 (get_or text at 0) ≡ true → Come text b2 b1 (get_or text at 0) (at + 1)
    come-next s =
        let e : standing_from b3 b2 b1 (drop at text) ≡ suc (standing_from b2 b1 (get_or text at 0) (drop (suc at) text)) = rw (drop-cons text at 0 h, s) in
        record { inside = omega arith; same = rw (add-one at) (omega (arith, o.same)) }
