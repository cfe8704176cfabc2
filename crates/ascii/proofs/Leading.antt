-- The bytes below 0x80 at the start of a text: one more, a block more, and where they end.
use mathlib.Core.Path.{◌≡◌}
use Prim.Native.Nat.{ℕ, zero, suc, ◌+◌, ◌-◌, ◌≤◌, ◌<◌, min, max}
use mathlib.Core.List.{List, [], ◌∷◌}
use lib.ListN.{length, take, drop, length-drop}
use lib.Dec.{ltb}
use borrow.Author.Tests.{ltb-true, lt-ltb}
use native.Mathlib.Omega.{arith}
use Rattle.std.specs.List.{fold}
use Rattle.theory.proofs.Cases.{split}
use Rattle.ascii.specs.Ascii.{Ascii, leading, run_of}

-- ---- they are below 0x80, and of the text

leading-few : (text : List ℕ) → leading text ≤ length text
leading-few [] = omega arith
leading-few (x ∷ xs) = split (ltb x 0x80) (λ t. rw t (omega (arith, leading-few xs))) (λ t. rw t (omega arith))

leading_ascii : (text : List ℕ) → Ascii text (leading text)
leading_ascii [] k h = absurd (omega arith)
leading_ascii (x ∷ xs) zero h = split (ltb x 0x80) (λ t. ltb-true x 0x80 t) (λ t. let l : 0 < 0 = rw t at h in absurd (omega arith))
leading_ascii (x ∷ xs) (suc k) h = split (ltb x 0x80)
    (λ t. let l : suc k < suc (leading xs) = rw t at h in leading_ascii xs k (omega arith))
    (λ t. let l : suc k < 0 = rw t at h in absurd (omega arith))

-- ---- the largest of a text's bytes and another is below 0x80 exactly if that is, and all of them

pub largest-low : (text : List ℕ) (top : ℕ) → fold max top text < 0x80 → (top < 0x80) × (length text ≤ leading text)
largest-low [] top h = (h, omega arith)
largest-low (x ∷ xs) top h =
    let l = largest-low xs (max top x) h in
    let low : x < 0x80 = omega (arith, l.0) in
    (omega (arith, l.0), rw (lt-ltb x 0x80 low) (omega (arith, l.1)))

pub low_largest : (text : List ℕ) (top : ℕ) → top < 0x80 → length text ≤ leading text → fold max top text < 0x80
low_largest [] top t h = t
low_largest (x ∷ xs) top t h = split (ltb x 0x80)
    (λ e. let m : suc (length xs) ≤ suc (leading xs) = rw e at h in low_largest xs (max top x) (omega (arith, ltb-true x 0x80 e)) (omega arith))
    (λ e. let m : suc (length xs) ≤ 0 = rw e at h in absurd (omega arith))

-- those behind some of them
leading-behind : (text : List ℕ) (n : ℕ) → n ≤ leading text → leading text ≡ n + leading (drop n text)
leading-behind text zero h = omega arith
leading-behind [] (suc n) h = absurd (omega arith)
leading-behind (x ∷ xs) (suc n) h = split (ltb x 0x80)
    (λ t. let m : suc n ≤ suc (leading xs) = rw t at h in rw t (omega (arith, leading-behind xs n (omega arith))))
    (λ t. let m : suc n ≤ 0 = rw t at h in absurd (omega arith))

-- those of its first bytes
leading-take : (n : ℕ) (text : List ℕ) → leading (take n text) ≡ min n (leading text)
leading-take zero text = omega arith
leading-take (suc n) [] = omega arith
leading-take (suc n) (x ∷ xs) = split (ltb x 0x80) (λ t. rw t (omega (arith, leading-take n xs))) (λ t. rw t (omega arith))

-- ---- THE RUN: those that fill blocks

module _ (text : List ℕ) where
  pub run-few : run_of text ≤ length text
  run-few = omega (arith, leading-few text)

  pub run-ascii : Ascii text (run_of text)
  run-ascii k h = leading_ascii text k (omega arith)

  -- a walk over the blocks has a part left
  pub record Ran (part : List ℕ) : Type 0 where
    pub inside : length part ≤ length text
    pub same : length text - length part + run_of part ≡ run_of text

  pub ran-start : Ran text
  ran-start = record { inside = omega arith; same = omega arith }

  module _ (part : List ℕ) (r : Ran part) where
    -- a block more
    pub ran-next : 64 ≤ length part → 64 ≤ leading (take 64 part) → Ran (drop 64 part)
    ran-next h l =
        let e = leading-behind part 64 (omega (arith, leading-take 64 part)) in
        record { inside = omega (arith, r.inside, length-drop 64 part); same = omega (arith, r.inside, r.same, h, e, length-drop 64 part) }

    -- the next block has a byte of 0x80 or more
    pub ran-stopped : leading (take 64 part) < 64 → length text - length part ≡ run_of text
    ran-stopped l = omega (arith, r.same, leading-take 64 part)

    -- there is no next block
    pub ran-end : length part < 64 → length text - length part ≡ run_of text
    ran-end h = omega (arith, r.same, leading-few part)
