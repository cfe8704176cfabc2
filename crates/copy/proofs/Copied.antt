-- Bytes of a text that stand at the start of an output: one more of them, and a block of sixteen more.
use mathlib.Core.Path.{◌≡◌, refl, sym, ap, ◌∙◌}
use Prim.Native.Nat.{ℕ, ◌+◌, ◌-◌, ◌≤◌, ◌<◌, min}
use native.Mathlib.Nat.{le_refl}
use mathlib.Core.List.{List, ◌++◌, append_assoc}
use lib.ListN.{length, get_or, take, drop, set, length-append, length-drop, drop_of_length-le}
use lib.Seq.{length-take-le, take_all, take-take, take-add, take-append-le, drop-drop, drop_at}
use native.Mathlib.Omega.{arith}
use Rattle.theory.proofs.Cases.{under}
use Rattle.terms.proofs.WalkBySegments.{part_is}
use Rattle.terms.proofs.WalkWrites.{lent, back, back_is}
use Rattle.terms.proofs.CopiedText.{copied_next as one_more}

-- the first n bytes stand there, and the places behind keep what they held
pub record Copied (text out₀ out : List ℕ) (n : ℕ) : Type 0 where
  pub inside : n ≤ length text
  pub within : n ≤ length out₀
  pub long : length out ≡ length out₀
  pub same : out ≡ take n text ++ drop n out₀

module _ (text out₀ : List ℕ) where
  copied : (out : List ℕ) (n : ℕ) → n ≤ length text → n ≤ length out₀ → out ≡ take n text ++ drop n out₀ → Copied text out₀ out n
  copied out n h k e = record {
    inside = h;
    within = k;
    long = rw (e, length-append, length-take-le n text h, length-drop) (omega arith);
    same = e;
  }

  pub copied-start : Copied text out₀ out₀ 0
  copied-start = copied out₀ 0 (omega arith) (omega arith) refl

  module _ (out : List ℕ) (n : ℕ) (c : Copied text out₀ out n) where
    pub copied_next : n < length text → n < length out₀ → Copied text out₀ (set out n (get_or text n 0)) (n + 1)
    copied_next h k =
        copied (set out n (get_or text n 0)) (n + 1) (omega arith) (omega arith)
        (one_more text out₀ out n h k c.same)

    -- a block goes to a place from which on no more than a block was copied
    module _ (at : ℕ) (before : at ≤ n) (near : n ≤ at + 16) (inside : at + 16 ≤ length text) (within : at + 16 ≤ length out₀) where
      front : take at out ≡ take at text
      front =
          ap (take at) c.same
          ∙ take-append-le at (take n text) (drop n out₀) (omega (arith, length-take-le n text c.inside))
          ∙ take-take at n text before

      behind : drop (at + 16) out ≡ drop (at + 16) out₀
      behind =
          let e : n + (at + 16 - n) ≡ at + 16 = omega arith in
          let k : drop n out ≡ drop n out₀ = ap (drop n) c.same ∙ drop_at (take n text) (drop n out₀) n (length-take-le n text c.inside) in
          rw (← e, ← drop-drop (at + 16 - n) n out, k, drop-drop)

      pub copied-block : (ys : List ℕ) → ys ≡ take 16 (take (length text - at) (drop at text)) ++ drop 16 (lent out at) → Copied text out₀ (back out at ys) (at + 16)
      copied-block ys e =
          copied (back out at ys) (at + 16) inside within
          (back_is out at ys
          ∙ rw (e, part_is text at, part_is out at, drop-drop 16 at out, front, behind, take-add at 16 text)
          (sym (append_assoc (take at text) (take 16 (drop at text)) (drop (at + 16) out₀))))

-- as much as there is of a text, and as the output has places for
pub copied_all : (text out₀ out : List ℕ) (n : ℕ) → n ≡ min (length text) (length out₀) → out ≡ take n text ++ drop n out₀
    → out ≡ take (length out₀) text ++ drop (length text) out₀
copied_all text out₀ out n m e = under (length text) (length out₀)
    (λ h.
    let s : n ≡ length text = omega arith in
    e ∙ rw (s, take_all (length text) text (omega arith), take_all (length out₀) text (omega arith)))
    (λ h.
    let s : n ≡ length out₀ = omega arith in
    e ∙ rw (s, drop_of_length-le out₀ h, drop_of_length-le out₀ (le_refl (length out₀))))

-- the whole text, where there is room for it
pub copied_whole : (text out₀ out : List ℕ) → length text ≤ length out₀ → out ≡ take (length out₀) text ++ drop (length text) out₀
    → out ≡ text ++ drop (length text) out₀
copied_whole text out₀ out h e = e ∙ rw (take_all (length out₀) text h)
