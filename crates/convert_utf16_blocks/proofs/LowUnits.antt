-- The units that a text begins with, and units below 0x80, which are alone and their own bytes.
use mathlib.Core.Path.{◌≡◌, refl, sym, ap, ◌∙◌}
use Prim.Native.Nat.{ℕ, zero, suc, ◌%◌, ◌≤◌, ◌<◌}
use native.Mathlib.Nat.{add-zero}
use mathlib.Core.Bool.{Bool, true, ◌&&◌, and-true, and_assoc}
use mathlib.Core.List.{List, [], ◌∷◌, ◌++◌}
use lib.ListN.{length, get_or, take, drop, take-append-drop}
use lib.Seq.{take_all, length-take-le}
use lib.Bits.{bit_or, or_lt, or_add_and, and_le_l, and_le_r}
use lib.Dec.{ltb}
use borrow.Author.Tests.{lt-ltb, le-ltb, ltb-true, ltb-false}
use native.Mathlib.Omega.{arith}
use Rattle.std.proofs.lemmas.List.{ext_get_or}
use Rattle.theory.proofs.Cases.{split, under, both}
use Rattle.utf8.proofs.FaithfulForm.{is_one}
use Rattle.utf16.specs.Alone.{all_alone}
use Rattle.convert_utf16_blocks.specs.Block.{opening, within, block, roomy, low, sixteen, bytes_of, Counts, Puts}
use Rattle.convert_utf16_blocks.specs.Inside.Places.{Squeezed}

-- ---- units below 0x80

pub low-alone : (xs : List ℕ) → low xs ≡ true → all_alone xs ≡ true
low-alone [] e = refl
low-alone (x ∷ xs) e =
    let p = both (ltb x 0x80) (low xs) e in
    let a : x < 0xD800 = omega (arith, ltb-true x 0x80 p.0) in
    rw (lt-ltb x 0xD800 a) (low-alone xs p.1)

pub low-bytes : (xs : List ℕ) → low xs ≡ true → bytes_of xs ≡ xs
low-bytes [] e = refl
low-bytes (x ∷ xs) e = let p = both (ltb x 0x80) (low xs) e in rw (is_one x (ltb-true x 0x80 p.0)) (ap (λ (r : List ℕ). x ∷ r) (low-bytes xs p.1))

low-each : (xs : List ℕ) → low xs ≡ true → (k : ℕ) → k < length xs → get_or xs k 0 < 0x80
low-each [] e k h = absurd (omega arith)
low-each (x ∷ xs) e zero h = ltb-true x 0x80 (both (ltb x 0x80) (low xs) e).0
low-each (x ∷ xs) e (suc k) h = low-each xs (both (ltb x 0x80) (low xs) e).1 k (omega arith)

-- their low bytes are themselves
pub low-row : (xs row : List ℕ) → low xs ≡ true → length row ≡ length xs → ((k : ℕ) → k < length xs → get_or row k 0 ≡ get_or xs k 0 % 0x100) → row ≡ xs
low-row xs row e l m = ext_get_or 0 row xs l (λ k h. let i : k < length xs = omega arith in m k i ∙ small (get_or xs k 0) (low-each xs e k i))
  where
    small : (x : ℕ) → x < 0x80 → x % 0x100 ≡ x
    small x h = omega arith

low-append : (xs : List ℕ) (x : ℕ) → low (xs ++ x ∷ []) ≡ low xs && ltb x 0x80
low-append [] x = and-true (ltb x 0x80)
low-append (y ∷ xs) x = rw (low-append xs x) (sym (and_assoc (ltb y 0x80) (low xs) (ltb x 0x80)))

-- the bits of two numbers together are below 0x80 where both are
or_low : (a b : ℕ) → ltb (bit_or a b) 0x80 ≡ ltb a 0x80 && ltb b 0x80
or_low a b = under a 0x80
    (λ h. rw (lt-ltb a 0x80 h) (under b 0x80
    (λ l. rw (lt-ltb b 0x80 l) (lt-ltb (bit_or a b) 0x80 (or_lt 7 a b h l)))
    (λ l. rw (le-ltb b 0x80 l) (le-ltb (bit_or a b) 0x80 (omega (arith, or_add_and a b, and_le_l a b))))))
    (λ h. rw (le-ltb a 0x80 h) (le-ltb (bit_or a b) 0x80 (omega (arith, or_add_and a b, and_le_r a b))))

pub low-next : (xs : List ℕ) (bits x : ℕ) → ltb bits 0x80 ≡ low xs → ltb (bit_or bits x) 0x80 ≡ low (xs ++ x ∷ [])
low-next xs bits x e = or_low bits x ∙ rw (low-append xs x, e)

-- ---- the units that a text begins with

pub counts_low : (units : List ℕ) (n : ℕ) → n ≡ length units → low units ≡ true → Counts units (record { read = n; places = n })
counts_low units n l u = record { read_is = l; places_is = l ∙ sym (ap length (low-bytes units u)) }

pub puts_low : (units out out' : List ℕ) (n : ℕ) → n ≡ length units → low units ≡ true → out' ≡ units ++ drop n out
    → Puts units out out' (record { read = n; places = n })
puts_low units out out' n l u e = record { counts = counts_low units n l u; output = rw (low-bytes units u, ← l) e }

pub puts_mixed : (units out out' : List ℕ) → 128 ≡ length units → (n : ℕ) → Squeezed units 128 0 out out' n
    → Puts units out out' (record { read = 128; places = n })
puts_mixed units out out' l n s =
    let h : length units ≤ 128 = omega arith in
    let t : take 128 units ≡ units = take_all 128 units h in
    let c : n ≡ length (bytes_of units) = rw t at s.count in
    let f : take n out' ≡ bytes_of units = rw t at s.form in
    let k : drop n out' ≡ drop n out = rw add-zero at s.kept in
    record { counts = record { read_is = l; places_is = c }; output = rw (← c) (sym (take-append-drop n out') ∙ rw (f, k)) }

pub first-long : (n : ℕ) (text units : List ℕ) → n ≤ length text → units ≡ take n text → n ≡ length units
first-long n text units h e = sym (ap length e ∙ length-take-le n text h)

pub opening-all : (test : List ℕ → Bool) (n : ℕ) (text units : List ℕ) → n ≤ length text → units ≡ take n text → test units ≡ true → opening test n text ≡ units
opening-all test n text units h e p = rw (le-ltb (length text) n h, ← e, p)

pub within_all : (places room : ℕ) (units : List ℕ) → places ≤ room → within places room units ≡ units
within_all places room units h = rw (le-ltb room places h)

-- WHATEVER IT IS: it is alone, and the text begins with it
module _ (text : List ℕ) where
  abbrev pub AloneFirst : List ℕ → Type 0
  AloneFirst units = (all_alone units ≡ true) × (text ≡ units ++ drop (length units) text)

  opening-is : (test : List ℕ → Bool) → ((xs : List ℕ) → test xs ≡ true → all_alone xs ≡ true) → (n : ℕ) → AloneFirst (opening test n text)
  opening-is test p n = split (ltb (length text) n)
      (λ e. rw e (refl, refl))
      (λ e. split (test (take n text))
      (λ f.
      let l : length (take n text) ≡ n = length-take-le n text (ltb-false (length text) n e) in
      rw (e, f, l) (p (take n text) f, sym (take-append-drop n text)))
      (λ f. rw (e, f) (refl, refl)))

  within-is : (places room : ℕ) (units : List ℕ) → AloneFirst units → AloneFirst (within places room units)
  within-is places room units p = split (ltb room places) (λ e. rw e (refl, refl)) (λ e. rw e p)

  pub block-is : AloneFirst (block text)
  block-is = opening-is all_alone (λ xs p. p) 128

  pub roomy-is : (room : ℕ) → AloneFirst (roomy room text)
  roomy-is room = within-is 384 room (block text) block-is

  pub sixteen-is : (room : ℕ) → AloneFirst (sixteen room text)
  sixteen-is room = within-is 16 room (opening low 16 text) (opening-is low low-alone 16)
