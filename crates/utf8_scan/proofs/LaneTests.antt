-- The parts of a lane's test, from bits to what they say of the bytes.
use Prim.Native.Nat.{ℕ, ◌<◌, ◌≤◌}
use mathlib.Core.Path.{◌≡◌, sym, ◌∙◌}
use mathlib.Core.Bool.{Bool, true, ◌&&◌, ◌||◌, true≢false}
use native.Mathlib.Omega.{arith}
use borrow.Author.Tests.{le-leb, lt-leb, lt-ltb, leb-true, ltb-true, eq-eqb, ne_eqb, eqb-true}
use lib.Bits.{bit_or, or_add_and, and_le_l, and_le_r, or_lt}
use lib.Dec.{leb, ltb, eqb}
use Rattle.theory.proofs.Cases.{split, both, under}
use Rattle.utf8_scan.specs.Stands.{is_later, low_of, high_of, second, stands}

-- ---- several tests in one: the bits together are below 0x80 where each is

pub or_left : (a b : ℕ) → bit_or a b < 0x80 → a < 0x80
or_left a b h = omega (arith, or_add_and a b, and_le_r a b)

pub or_right : (a b : ℕ) → bit_or a b < 0x80 → b < 0x80
or_right a b h = omega (arith, or_add_and a b, and_le_l a b)

pub or_small : (a b : ℕ) → a < 0x80 → b < 0x80 → bit_or a b < 0x80
or_small a b g h = or_lt 7 a b g h

pub large_left : (a b : ℕ) → 0x80 ≤ a → 0x80 ≤ bit_or a b
large_left a b h = omega (arith, or_add_and a b, and_le_r a b)

pub large_right : (a b : ℕ) → 0x80 ≤ b → 0x80 ≤ bit_or a b
large_right a b h = omega (arith, or_add_and a b, and_le_l a b)

-- ---- a test of a range

pub among-yes : (b low high : ℕ) → leb low b && ltb b high ≡ true → (low ≤ b) × (b < high)
among-yes b low high e = let p = both (leb low b) (ltb b high) e in (leb-true low b p.0, ltb-true b high p.1)

pub among_is : (b low high : ℕ) → low ≤ b → b < high → leb low b && ltb b high ≡ true
among_is b low high l h = rw (le-leb low b l, lt-ltb b high h)

-- ---- the second byte behind the first and the last lead of a kind

pub record Bounds (first last edge b x : ℕ) : Type 0 where
  pub from : b ≡ first → edge ≤ x
  pub upto : b ≡ last → x < edge

pub bounds_is : (first last edge b x : ℕ) (t : Bool) → t ≡ leb 0x80 x && ltb x edge → (first ≡ last → ⊥) → 0x80 ≤ x
    → (eqb b first || eqb b last) && t ≡ eqb b last → Bounds first last edge b x
bounds_is first last edge b x t e n l q =
    record {
      from = λ p. under x edge (λ h. absurd (at_first p h)) (λ h. h);
      upto = λ p. at_last p;
    }
  where
    at_first : b ≡ first → x < edge → ⊥
    at_first p h =
        let y : t ≡ true = e ∙ among_is x 0x80 edge l h in
        true≢false (sym (rw (eq-eqb b first p, y)) ∙ q ∙ ne_eqb b last (λ r. n (sym p ∙ r)))

    at_last : b ≡ last → x < edge
    at_last p =
        let y : (eqb b first || eqb b last) && t ≡ true = q ∙ eq-eqb b last p in
        (among-yes x 0x80 edge (sym e ∙ (both (eqb b first || eqb b last) t y).1)).1

pub bounds_none : (first last edge b x : ℕ) → b < first → first ≤ last → Bounds first last edge b x
bounds_none first last edge b x h k = record { from = λ p. absurd (omega arith); upto = λ p. absurd (omega arith) }

-- ---- the test as a whole, from its parts

low_is : (b x : ℕ) → 0x80 ≤ x → (b ≡ 0xE0 → 0xA0 ≤ x) → (b ≡ 0xF0 → 0x90 ≤ x) → low_of b ≤ x
low_is b x l e f = split (eqb b 0xE0)
    (λ p. rw p (e (eqb-true b 0xE0 p)))
    (λ p. rw p (split (eqb b 0xF0) (λ q. rw q (f (eqb-true b 0xF0 q))) (λ q. rw q l)))

high_is : (b x : ℕ) → x < 0xC0 → (b ≡ 0xED → x < 0xA0) → (b ≡ 0xF4 → x < 0x90) → x < high_of b
high_is b x l e f = split (eqb b 0xED)
    (λ p. rw p (e (eqb-true b 0xED p)))
    (λ p. rw p (split (eqb b 0xF4) (λ q. rw q (f (eqb-true b 0xF4 q))) (λ q. rw q l)))

pub second_is : (b x : ℕ) → 0xC2 ≤ b → b < 0xF5 → (0x80 ≤ x) × (x < 0xC0) → Bounds 0xE0 0xED 0xA0 b x → Bounds 0xF0 0xF4 0x90 b x
    → second b x ≡ true
second_is b x l h r e f =
    rw (
      le-leb 0xC2 b l,
      lt-ltb b 0xF5 h,
      le-leb (low_of b) x (low_is b x r.0 e.from f.from),
      lt-ltb x (high_of b) (high_is b x r.1 e.upto f.upto),
    )

pub stands_is : (b3 b2 b1 b0 m : ℕ) → is_later b0 ≡ leb 0x80 m → (0xC0 ≤ b1 → 0x80 ≤ m) → (0xE0 ≤ b2 → 0x80 ≤ m) → (0xF0 ≤ b3 → 0x80 ≤ m)
    → (b1 < 0xC0 → b2 < 0xE0 → b3 < 0xF0 → m < 0x80) → (0xC0 ≤ b1 → 0xC2 ≤ b1) → b1 < 0xF5
    → (0x80 ≤ b0 → Bounds 0xE0 0xED 0xA0 b1 b0) → (0x80 ≤ b0 → Bounds 0xF0 0xF4 0x90 b1 b0) → stands b3 b2 b1 b0 ≡ true
unfolding stands
stands_is b3 b2 b1 b0 m a p q r s c h e f = under b1 0xC0
    (λ g. rw (lt-leb 0xC0 b1 g) (under b2 0xE0
    (λ i. rw (lt-leb 0xE0 b2 i) (under b3 0xF0
    (λ j. rw (lt-leb 0xF0 b3 j, a, lt-leb 0x80 m (s g i j)))
    (λ j. rw (le-leb 0xF0 b3 j, a, le-leb 0x80 m (r j)))))
    (λ i. rw (le-leb 0xE0 b2 i, a, le-leb 0x80 m (q i)))))
    (λ g.
    let l = among-yes b0 0x80 0xC0 (a ∙ le-leb 0x80 m (p g)) in
    rw (le-leb 0xC0 b1 g) (second_is b1 b0 (c g) h l (e l.0) (f l.0)))
