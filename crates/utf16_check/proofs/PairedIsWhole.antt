-- Where halves stand in pairs there is no damage: what is passed over are whole segments.
use mathlib.Core.Path.{◌≡◌, refl, sym, ap, ◌∙◌}
use mathlib.Core.Logic.{◌⊎◌, inl, inr}
use Prim.Native.Nat.{ℕ, zero, suc, ◌+◌, ◌≤◌, ◌<◌}
use native.Mathlib.Numerals.{add-one}
use mathlib.Core.Bool.{Bool, true, false, beq, true≢false}
use mathlib.Core.List.{List, [], ◌∷◌}
use lib.ListN.{length, get_or, take, drop, length-drop}
use lib.Seq.{drop-drop}
use mir.Val.{bool_byte}
use lib.Dec.{leb}
use borrow.Author.Count.{below_more}
use borrow.Author.Tests.{leb-true, le-leb, lt-leb}
use native.Mathlib.Omega.{arith}
use Rattle.std.proofs.lemmas.List.{get_or-take}
use Rattle.theory.specs.Reader.{cut}
use Rattle.theory.specs.Table.{is_damage}
use Rattle.theory.specs.Tally.{entries}
use Rattle.theory.proofs.Cases.{split, under, both}
use Rattle.theory.proofs.Divisions.{cut-cons}
use Rattle.terms.specs.Told.{bit}
use Rattle.terms.proofs.WalkBySegments.{Clean}
use Rattle.utf16.specs.Units.{units}
use Rattle.utf16_check.specs.Inside.Paired.{is_first, is_second, Paired, WholeTo}
use Rattle.utf16.proofs.RowsOfUnits.{FirstHalf, SecondHalf, unit-whole, pair-whole}

-- ---- the tests

first_is : (x : ℕ) → is_first x ≡ true → FirstHalf x
first_is x e = let b = both (leb 0xD800 x) (leb x 0xDBFF) e in (leb-true _ _ b.0, leb-true _ _ b.1)

second_is : (x : ℕ) → is_second x ≡ true → SecondHalf x
second_is x e = let b = both (leb 0xDC00 x) (leb x 0xDFFF) e in (leb-true _ _ b.0, leb-true _ _ b.1)

no_first : (x : ℕ) → SecondHalf x → is_first x ≡ false
no_first x h = let a : 0xD800 ≤ x = omega arith in let b : 0xDBFF < x = omega arith in rw (le-leb 0xD800 x a, lt-leb x 0xDBFF b)

-- ---- whole segments at the start of a text

pub whole-none : (text : List ℕ) → WholeTo text 0
whole-none text = record { inside = omega arith; same = λ at. ap (λ (i : ℕ). entries is_damage i (cut units text)) (omega arith) }

pub whole_on : (text : List ℕ) (a b : ℕ) → WholeTo text a → WholeTo (drop a text) b → WholeTo text (a + b)
whole_on text a b v w = record {
  inside = omega (arith, v.inside, w.inside, length-drop a text);
  same = λ at.
      let e : at + (a + b) ≡ at + a + b = omega arith in
      v.same at ∙ w.same (at + a) ∙ rw (drop-drop b a text, e);
}

no_half : (x : ℕ) → is_first x ≡ false → is_second x ≡ false → x < 0x10000 → (x < 0xD800) ⊎ ((0xDFFF < x) × (x ≤ 0xFFFF))
no_half x f s h = under x 0xD800
    (λ l. inl l)
    (λ l. under x 0xDC00
    (λ m.
    let n : x ≤ 0xDBFF = omega arith in
    let t : is_first x ≡ true = rw (le-leb 0xD800 x l, le-leb x 0xDBFF n) in
    absurd (true≢false (sym t ∙ f)))
    (λ m. under x 0xE000
    (λ o.
    let n : x ≤ 0xDFFF = omega arith in
    let t : is_second x ≡ true = rw (le-leb 0xDC00 x m, le-leb x 0xDFFF n) in
    absurd (true≢false (sym t ∙ s)))
    (λ o. inr (omega arith, omega arith))))

one-whole : (x : ℕ) (xs : List ℕ) → is_first x ≡ false → is_second x ≡ false → x < 0x10000 → WholeTo (x ∷ xs) 1
one-whole x xs f s h = record { inside = omega arith; same = λ at. rw (cut-cons, unit-whole x xs (no_half x f s h)) }

pair-two : (x y : ℕ) (ys : List ℕ) → FirstHalf x → SecondHalf y → WholeTo (x ∷ y ∷ ys) 2
pair-two x y ys f s = record { inside = omega arith; same = λ at. rw (cut-cons, pair-whole x (y ∷ ys) (f, s)) }

-- UNITS IN PAIRS ARE WHOLE, and so is the pair that they end in
pub paired_whole : (n : ℕ) (text : List ℕ) → n < length text → Paired text n → is_second (get_or text 0 0) ≡ false → ((k : ℕ) → get_or text k 0 < 0x10000)
    → WholeTo text (n + bit (is_second (get_or text n 0)))
paired_whole zero text h p s u = rw s (whole-none text)
paired_whole (suc n) [] h p s u = absurd (omega arith)
paired_whole (suc n) (x ∷ []) h p s u = absurd (omega arith)
paired_whole (suc zero) (x ∷ y ∷ ys) h p s u = split (is_first x)
    (λ f.
    let g : is_second y ≡ true = sym (p.each 0 (omega arith)) ∙ f in
    rw g (pair-two x y ys (first_is x f) (second_is y g)))
    (λ f.
    let g : is_second y ≡ false = sym (p.each 0 (omega arith)) ∙ f in
    rw g (one-whole x (y ∷ ys) f s (u 0)))
paired_whole (suc (suc n)) (x ∷ y ∷ ys) h p s u = split (is_first x)
    (λ f.
    let g : is_second y ≡ true = sym (p.each 0 (omega arith)) ∙ f in
    let m : is_second (get_or ys 0 0) ≡ false = sym (p.each 1 (omega arith)) ∙ no_first y (second_is y g) in
    let b : ℕ = bit (is_second (get_or ys n 0)) in
    let e : suc (suc n) + b ≡ 2 + (n + b) = omega arith in
    let r = paired_whole n ys (omega arith) (record { each = λ k l. p.each (suc (suc k)) (omega arith) }) m (λ k. u (suc (suc k))) in
    rw e (whole_on (x ∷ y ∷ ys) 2 (n + b) (pair-two x y ys (first_is x f) (second_is y g)) r))
    (λ f.
    let g : is_second y ≡ false = sym (p.each 0 (omega arith)) ∙ f in
    let b : ℕ = bit (is_second (get_or ys n 0)) in
    let e : suc (suc n) + b ≡ 1 + (suc n + b) = omega arith in
    let r = paired_whole (suc n) (y ∷ ys) (omega arith) (record { each = λ k l. p.each (suc k) (omega arith) }) g (λ k. u (suc k)) in
    rw e (whole_on (x ∷ y ∷ ys) 1 (suc n + b) (one-whole x (y ∷ ys) f s (u 0)) r))

-- ---- the code's tests, and the strict check

pub paired_next : (text : List ℕ) (k : ℕ) → Paired text k → is_first (get_or text k 0) ≡ is_second (get_or text (k + 1) 0) → Paired text (k + 1)
paired_next text k p e = record {
  each = below_more (λ (i : ℕ). is_first (get_or text i 0) ≡ is_second (get_or text (suc i) 0)) k p.each (rw (← add-one k) e);
}

-- a block, and the unit behind it
pub block_whole : (text units : List ℕ) → 129 ≤ length text → units ≡ take 129 text → is_second (get_or units 0 0) ≡ false → Paired units 128
    → ((k : ℕ) → get_or text k 0 < 0x10000)
    → WholeTo text (128 + bit (is_second (get_or units 128 0)))
block_whole text units h e s p u =
    let same : (k : ℕ) → k < 129 → get_or units k 0 ≡ get_or text k 0 = λ k l. ap (λ (xs : List ℕ). get_or xs k 0) e ∙ get_or-take 129 text k 0 l in
    let q : Paired text 128 = record { each = λ k l. rw (← same k (omega arith), ← same (suc k) (omega arith)) (p.each k l) } in
    rw (same 128 (omega arith)) (paired_whole 128 text (omega arith) q (rw (← same 0 (omega arith)) s) u)

-- two tests with one answer
pub same_test : (a b : Bool) → beq a b ≡ true → a ≡ b
same_test true true e = refl
same_test false false e = refl
same_test true false e = absurd (true≢false (sym e))
same_test false true e = absurd (true≢false (sym e))

-- the number of a test
pub bit_is : (b : Bool) → bool_byte b ≡ bit b
bit_is true = refl
bit_is false = refl

pub clean_to : (text : List ℕ) (at n : ℕ) → Clean units text at → WholeTo (drop at text) n → Clean units text (at + n)
clean_to text at n c w = record {
  inside = omega (arith, c.inside, w.inside, length-drop at text);
  same = c.same ∙ w.same at ∙ rw (drop-drop n at text);
}
