-- Bytes that stand well, one more or a block more, and what that says of the text.
use Prim.Native.Nat.{ℕ, zero, suc, ◌+◌, ◌-◌, ◌<◌, ◌≤◌}
use mathlib.Core.Path.{◌≡◌, sym, ap, ◌∙◌, subst}
use mathlib.Core.Bool.{true}
use mathlib.Core.List.{List, [], ◌∷◌, ◌++◌}
use native.Mathlib.Omega.{arith}
use borrow.Author.Count.{below_more}
use borrow.Author.Tests.{lt-leb}
use lib.Bits.{bit_or, or_add_and, and_le_l, and_le_r}
use lib.ListN.{length, take, drop, get_or, get_or-append, length-take, length-drop}
use lib.Seq.{drop-drop, get_or-drop, get_or-take, get_or-append_seam}
use Rattle.std.proofs.lemmas.List.{length_push}
use Rattle.theory.proofs.Cases.{under}
use Rattle.utf8_scan.specs.Stands.{stands}
use Rattle.utf8_scan.specs.Inside.Blocks.{StandsIn, Stand, Below, Ascii, padded, Good}
use Rattle.utf8_scan.proofs.LaneTests.{or_left, or_right}

-- ---- a byte more

pub stands_at : (t : List ℕ) (k : ℕ) → stands (get_or t k 0) (get_or t (k + 1) 0) (get_or t (k + 2) 0) (get_or t (k + 3) 0) ≡ true → StandsIn (drop k t)
stands_at t k h =
    let z : get_or (drop k t) 0 0 ≡ get_or t k 0 = get_or-drop k t 0 0 ∙ ap (λ (i : ℕ). get_or t i 0) (omega arith) in
    rw (z, get_or-drop k t 1 0, get_or-drop k t 2 0, get_or-drop k t 3 0) h

-- the tests of several bytes together
pub stand-more : (t : List ℕ) (k e x : ℕ) → (e < 0x80 → Stand t k) → (x < 0x80 → StandsIn (drop k t)) → bit_or e x < 0x80 → Stand t (k + 1)
stand-more t k e x f g h = below_more (λ (j : ℕ). StandsIn (drop j t)) k (f (or_left e x h)) (g (or_right e x h))

-- as far as the least place found
abbrev pub StandTo : List ℕ → ℕ → ℕ → Type 0
StandTo t k m = (j : ℕ) → j < k → j < m → StandsIn (drop j t)

pub stand_to_more : (t : List ℕ) (k m less : ℕ) → StandTo t k m → less ≤ m → (k < less → StandsIn (drop k t)) → StandTo t (k + 1) less
stand_to_more t k m less f h g = below_more (λ (j : ℕ). j < less → StandsIn (drop j t)) k (λ j l i. f j l (omega arith)) g

-- ---- bytes below 0x80

pub below_up : (t : List ℕ) (n m bound : ℕ) → Below t n (suc m) → m < bound → Below t n bound
below_up t n m bound h l k i = omega (arith, h k i)

stands-ascii : (b3 b2 b1 b0 : ℕ) → b3 < 0x80 → b2 < 0x80 → b1 < 0x80 → b0 < 0x80 → stands b3 b2 b1 b0 ≡ true
unfolding stands
stands-ascii b3 b2 b1 b0 a b c d = rw (lt-leb 0xC0 b1 (omega arith), lt-leb 0xE0 b2 (omega arith), lt-leb 0xF0 b3 (omega arith), lt-leb 0x80 b0 d)

pub stand-ascii : (t : List ℕ) (n : ℕ) → Below t (n + 3) 0x80 → Stand t n
stand-ascii t n h k l =
    stands_at t k
    (stands-ascii (get_or t k 0) (get_or t (k + 1) 0) (get_or t (k + 2) 0) (get_or t (k + 3) 0)
    (h k (omega arith)) (h (k + 1) (omega arith)) (h (k + 2) (omega arith)) (h (k + 3) (omega arith)))

-- ---- a block more, which may overlap what went before

drops : (z : List ℕ) (i j m : ℕ) → j + i ≡ m → drop i (drop j z) ≡ drop m z
drops z i j m e = drop-drop i j z ∙ ap (λ (k : ℕ). drop k z) e

-- in the first m bytes of a text as in all of it
in_front : (m k : ℕ) (z : List ℕ) → k + 3 < m → StandsIn (drop k (take m z)) → StandsIn (drop k z)
in_front m k z l h = rw (← same 0 (omega arith), ← same 1 (omega arith), ← same 2 (omega arith), ← same 3 (omega arith)) h
  where
    same : (j : ℕ) → j < 4 → get_or (drop k (take m z)) j 0 ≡ get_or (drop k z) j 0
    same j i = get_or-drop k (take m z) j 0 ∙ get_or-take m z (k + j) 0 (omega arith) ∙ sym (get_or-drop k z j 0)

pub good_none : (text : List ℕ) → Good text 0
good_none text = record { inside = omega arith; stand = λ k l. absurd (omega arith) }

-- the n bytes behind the three at a, as a part of m bytes has them
pub good_block : (text : List ℕ) (at a m n end : ℕ) → Good text at → a + 3 ≤ at → a + 3 + n ≡ end → end ≤ length text → n + 3 ≤ m
    → Stand (take m (drop a text)) n → Good text end
good_block text at a m n end g before ends inside long h = record {
  inside = inside;
  stand = λ k l. under k at (g.stand k) (λ i.
      let e : drop (k - (a + 3)) (drop a text) ≡ drop (k - 3) text = drops text (k - (a + 3)) a (k - 3) (omega arith) in
      let p : drop (k - 3) text ≡ drop k (padded text) = drops (padded text) (k - 3) 3 k (omega arith) in
      subst StandsIn (e ∙ p) (in_front m (k - (a + 3)) (drop a text) (omega arith) (h (k - (a + 3)) (omega arith))));
}

-- ---- the first three bytes

pub good_first : (text : List ℕ) → 3 ≤ length text → stands 0 0 0 (get_or text 0 0) ≡ true → stands 0 0 (get_or text 0 0) (get_or text 1 0) ≡ true
    → stands 0 (get_or text 0 0) (get_or text 1 0) (get_or text 2 0) ≡ true → Good text 3
good_first text h a b c = record { inside = h; stand = go }
  where
    go : Stand (padded text) 3
    go zero l = a
    go (suc zero) l = b
    go (suc (suc zero)) l = c
    go (suc (suc (suc k))) l = absurd (omega arith)

-- ---- bytes below 0x80 at the start of a text

-- the bits of several bytes together are at least each of them
pub below_or : (ys : List ℕ) (all b : ℕ) → Below ys (length ys) (suc all) → Below (ys ++ b ∷ []) (length (ys ++ b ∷ [])) (suc (bit_or all b))
below_or ys all b h = rw (length_push ys b) (below_more (λ (j : ℕ). get_or (ys ++ b ∷ []) j 0 < suc (bit_or all b)) (length ys)
    (λ j l. rw (get_or-append ys (b ∷ []) 0 j l) (omega (arith, h j l, or_add_and all b, and_le_r all b)))
    (rw (get_or-append_seam ys b [] 0) (omega (arith, or_add_and all b, and_le_l all b))))

pub ascii_none : (text : List ℕ) → Ascii text 0
ascii_none text = record { inside = omega arith; below = λ k l. absurd (omega arith) }

-- the n bytes at a, which may overlap what went before, as a part of m bytes has them
pub ascii-block : (text : List ℕ) (at a m n end : ℕ) → Ascii text at → a ≤ at → a + n ≡ end → end ≤ length text → n ≤ m
    → Below (take m (drop a text)) (length (take m (drop a text))) 0x80 → Ascii text end
ascii-block text at a m n end g before ends inside long h = record {
  inside = inside;
  below = λ k l. under k at (g.below k) (λ i.
      let j : a + (k - a) ≡ k = omega arith in
      let e : get_or (take m (drop a text)) (k - a) 0 ≡ get_or text k 0 = rw (get_or-take m (drop a text) (k - a) 0 (omega arith), get_or-drop a text (k - a) 0, j) in
      subst (λ (b : ℕ). b < 0x80) e (h (k - a) (omega (arith, length-take m (drop a text), length-drop a text))));
}

pub good_ascii : (text : List ℕ) (n : ℕ) → Ascii text n → Good text n
good_ascii text n g = record { inside = g.inside; stand = stand-ascii (padded text) n below }
  where
    below : Below (padded text) (n + 3) 0x80
    below zero l = omega arith
    below (suc zero) l = omega arith
    below (suc (suc zero)) l = omega arith
    below (suc (suc (suc k))) l = g.below k (omega arith)
