-- What a text spells: by the kind of its first byte, and over its ascii beginning.
use mathlib.Core.Path.{◌≡◌, refl, sym, ap, ◌∙◌}
use Prim.Native.Nat.{ℕ, zero, suc, ◌+◌, ◌-◌, ◌≤◌, ◌<◌}
use native.Mathlib.Numerals.{add-one}
use mathlib.Core.List.{List, [], ◌∷◌, ◌++◌, append_assoc}
use lib.ListN.{length, get_or, take, drop, length-drop, drop_of_length-le}
use lib.Seq.{drop-cons, drop-drop, get_or-drop, take-suc}
use borrow.Author.Tests.{lt-ltb, le-ltb, le-leb, lt-leb}
use native.Mathlib.Omega.{arith}
use Rattle.theory.proofs.Cases.{add_swap}
use Rattle.terms.proofs.WalkWrites.{Passed}
use Rattle.ascii.specs.Ascii.{Ascii}
use Rattle.std.specs.Prelude.{Some}
use Rattle.convert_from_utf8.specs.declared.spelling.Sequence.{Sequence}
use Rattle.convert_from_utf8.specs.Inside.Spell.{wants, two, three, first_half, second_half, units, spelled_from, spelled}
use Rattle.convert_from_utf8.specs.Inside.Stride.{Short}

-- ---- of any text: the equations, after which nothing looks at the recursion

spelled_from-drop : (k : ℕ) (xs : List ℕ) → spelled_from k xs ≡ spelled (drop k xs)
unfolding spelled spelled_from
spelled_from-drop zero xs = refl
spelled_from-drop (suc k) [] = refl
spelled_from-drop (suc k) (x ∷ xs) = spelled_from-drop k xs

pub spelled_nil : spelled [] ≡ []
unfolding spelled spelled_from
spelled_nil = refl

pub spelled_cons : (x : ℕ) (xs : List ℕ) → wants x ≤ length xs
    → spelled (x ∷ xs) ≡ units x (get_or xs 0 0) (get_or xs 1 0) (get_or xs 2 0) ++ spelled (drop (wants x) xs)
unfolding spelled spelled_from
spelled_cons x xs h =
    rw (le-leb (wants x) (length xs) h)
    (ap (λ (r : List ℕ). units x (get_or xs 0 0) (get_or xs 1 0) (get_or xs 2 0) ++ r) (spelled_from-drop (wants x) xs))

pub spelled-short : (x : ℕ) (xs : List ℕ) → length xs < wants x → spelled (x ∷ xs) ≡ []
unfolding spelled spelled_from
spelled-short x xs h = rw (lt-leb (wants x) (length xs) h)

-- ---- by the kind of the first byte

module _ (a : ℕ) where
  pub wants-none : a < 0x80 → wants a ≡ 0
  unfolding wants
  wants-none h = rw (lt-ltb a 0x80 h)

  pub wants-one : 0x80 ≤ a → a < 0xE0 → wants a ≡ 1
  unfolding wants
  wants-one l h = rw (le-ltb a 0x80 l, lt-ltb a 0xE0 h)

  pub wants-two : 0xE0 ≤ a → a < 0xF0 → wants a ≡ 2
  unfolding wants
  wants-two l h = rw (le-ltb a 0x80 (omega arith), le-ltb a 0xE0 l, lt-ltb a 0xF0 h)

  pub wants-three : 0xF0 ≤ a → wants a ≡ 3
  unfolding wants
  wants-three l = rw (le-ltb a 0x80 (omega arith), le-ltb a 0xE0 (omega arith), le-ltb a 0xF0 l)

module _ (a b c d : ℕ) where
  pub one-is : a < 0x80 → (wants a ≡ 0) × (units a b c d ≡ a ∷ [])
  unfolding units
  one-is h = (wants-none a h, rw (lt-ltb a 0x80 h))

  pub two_is : 0x80 ≤ a → a < 0xE0 → (wants a ≡ 1) × (units a b c d ≡ two a b ∷ [])
  unfolding units
  two_is l h = (wants-one a l h, rw (le-ltb a 0x80 l, lt-ltb a 0xE0 h))

  pub three-is : 0xE0 ≤ a → a < 0xF0 → (wants a ≡ 2) × (units a b c d ≡ three a b c ∷ [])
  unfolding units
  three-is l h = (wants-two a l h, rw (le-ltb a 0x80 (omega arith), le-ltb a 0xE0 l, lt-ltb a 0xF0 h))

  pub four_is : 0xF0 ≤ a → (wants a ≡ 3) × (units a b c d ≡ first_half a b c ∷ second_half c d ∷ [])
  unfolding units
  four_is l = (wants-three a l, rw (le-ltb a 0x80 (omega arith), le-ltb a 0xE0 (omega arith), le-ltb a 0xF0 l))

-- ---- the walk over a text, sequence by sequence

module _ (text : List ℕ) where
  -- what the text from a place on spells
  abbrev pub left : ℕ → List ℕ
  left at = spelled (drop at text)

  pub left_end : (at : ℕ) → length text ≤ at → left at ≡ []
  left_end at h = rw (drop_of_length-le text h) spelled_nil

  module _ (at : ℕ) (h : at < length text) where
    abbrev byte : ℕ → ℕ
    byte k = get_or text (at + k) 0

    here : drop at text ≡ get_or text at 0 ∷ drop (suc at) text
    here = drop-cons text at 0 h

    byte-is : (k : ℕ) → get_or (drop (suc at) text) k 0 ≡ byte (suc k)
    byte-is k = get_or-drop (suc at) text k 0 ∙ ap (λ (i : ℕ). get_or text i 0) (add_swap at k)

    behind : length (drop (suc at) text) ≡ length text - suc at
    behind = length-drop (suc at) text

    pub passed-next : at + suc (wants (get_or text at 0)) ≤ length text
        → Passed left (length text) at (suc (wants (get_or text at 0))) (units (get_or text at 0) (byte 1) (byte 2) (byte 3))
    passed-next l =
        let k : wants (get_or text at 0) ≤ length (drop (suc at) text) = omega (arith, behind) in
        record {
          inside = l;
          same =
              ap spelled here
              ∙ spelled_cons (get_or text at 0) (drop (suc at) text) k
              ∙ rw (byte-is 0, byte-is 1, byte-is 2, drop-drop (wants (get_or text at 0)) (suc at) text, add_swap at (wants (get_or text at 0)));
        }

    pub left-short : length text < at + suc (wants (get_or text at 0)) → left at ≡ []
    left-short l = ap spelled here ∙ spelled-short (get_or text at 0) (drop (suc at) text) (omega (arith, behind))

    -- by the kind of the byte there
    pub passed-one : get_or text at 0 < 0x80 → Passed left (length text) at 1 (get_or text at 0 ∷ [])
    passed-one m =
        let k = one-is (get_or text at 0) (byte 1) (byte 2) (byte 3) m in
        rw (k.0, k.1) at (passed-next (rw k.0 (omega arith)))

    pub passed-short : (s : Sequence) → Short (get_or text at 0) (byte 1) (Some s) → at + 2 ≤ length text
        → Passed left (length text) at s.size (s.unit ∷ [])
    passed-short s h f = rw (← h.1, h.2 (byte 2) (byte 3)) at (passed-next (rw (← h.1) (omega (arith, h.0))))

    pub passed-three : 0xE0 ≤ get_or text at 0 → get_or text at 0 < 0xF0 → at + 3 ≤ length text
        → Passed left (length text) at 3 (three (get_or text at 0) (byte 1) (byte 2) ∷ [])
    passed-three l m f =
        let k = three-is (get_or text at 0) (byte 1) (byte 2) (byte 3) l m in
        rw (k.0, k.1) at (passed-next (rw k.0 f))

    pub passed-four : 0xF0 ≤ get_or text at 0 → at + 4 ≤ length text
        → Passed left (length text) at 4 (first_half (get_or text at 0) (byte 1) (byte 2) ∷ second_half (byte 2) (byte 3) ∷ [])
    passed-four l f =
        let k = four_is (get_or text at 0) (byte 1) (byte 2) (byte 3) l in
        rw (k.0, k.1) at (passed-next (rw k.0 f))

  -- bytes below 0x80 are their own units
  pub ascii-spells : (n : ℕ) → n ≤ length text → Ascii text n → spelled text ≡ take n text ++ left n
  ascii-spells zero h p = refl
  ascii-spells (suc n) h p =
      let q = passed-one n (omega arith) (p n (omega arith)) in
      ascii-spells n (omega arith) (λ k l. p k (omega arith))
      ∙ rw (q.same, add-one n, take-suc text n 0 (omega arith)) (sym (append_assoc (take n text) (get_or text n 0 ∷ []) (left (suc n))))
