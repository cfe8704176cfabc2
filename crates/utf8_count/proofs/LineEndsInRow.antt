-- A part of a text in a row that is filled up with 0: its line ends.
use mathlib.Core.Path.{◌≡◌, refl, sym, ap, ◌∙◌}
use Prim.Native.Nat.{ℕ, zero, suc, ◌+◌, ◌-◌, ◌≤◌, ◌<◌, min}
use mathlib.Core.List.{List, [], ◌++◌}
use lib.ListN.{length, get_or, take, drop, replicate, get_or-append, get_or-eq_default}
use lib.Seq.{get_or-take, get_or-drop, get_or-append_right, length-take-le}
use native.Mathlib.Omega.{arith}
use Rattle.theory.proofs.Cases.{under}
use Rattle.utf8_count.specs.Counts.{end_first, ends_in}
use Rattle.utf8_count.specs.Inside.Ends.{ZeroFrom}
use Rattle.utf8_count.proofs.LineEndsAdd.{ends-nothing, ends_add}

-- only the first n bytes and two more are looked at
same_ends : (n : ℕ) (a b : List ℕ) → ((i : ℕ) → i < n + 2 → get_or a i 0 ≡ get_or b i 0) → ends_in n a ≡ ends_in n b
same_ends zero a b h = refl
same_ends (suc n) a b h =
    let e : end_first a ≡ end_first b = rw (h 0 (omega arith), h 1 (omega arith), h 2 (omega arith)) in
    omega (arith, e, same_ends n (drop 1 a) (drop 1 b) (λ i l. get_or-drop 1 a i 0 ∙ h (1 + i) (omega arith) ∙ sym (get_or-drop 1 b i 0)))

pub ends-take : (n : ℕ) (text : List ℕ) → ends_in n (take (n + 2) text) ≡ ends_in n text
ends-take n text = same_ends n (take (n + 2) text) text (λ i l. get_or-take (n + 2) text i 0 l)

-- 0 ends no line
zero-ends : (n : ℕ) (row : List ℕ) → ZeroFrom 0 row → ends_in n row ≡ 0
zero-ends n row z = same_ends n row [] (λ i l. z i (omega arith)) ∙ ends-nothing n

pub row_ends : (n : ℕ) (row : List ℕ) → n ≤ 126 → ZeroFrom (n + 2) row → ends_in 128 row ≡ ends_in n row + ends_in 2 (drop n row)
row_ends n row h z =
    let m : ℕ = 126 - n in
    let e : n + (2 + m) ≡ 128 = omega arith in
    let o : ZeroFrom 0 (drop 2 (drop n row)) = λ i l. get_or-drop 2 (drop n row) i 0 ∙ get_or-drop n row (2 + i) 0 ∙ z (n + (2 + i)) (omega arith) in
    ap (λ (k : ℕ). ends_in k row) (sym e)
    ∙ omega (arith, ends_add n (2 + m) row, ends_add 2 m (drop n row), zero-ends m (drop 2 (drop n row)) o)

-- ---- a row that has the first m bytes of a text, and 0 behind them

zeros : (n i : ℕ) → ◌≡◌ {A = ℕ} (get_or (replicate n 0) i 0) 0
zeros zero i = refl
zeros (suc n) zero = refl
zeros (suc n) (suc i) = zeros n i

module _ (text front : List ℕ) (m : ℕ) (h : m ≤ length text) (e : front ≡ take m text) where
  long : length front ≡ m
  long = ap length e ∙ length-take-le m text h

  there : (tail : List ℕ) (i : ℕ) → i < m → get_or (front ++ tail) i 0 ≡ get_or text i 0
  there tail i l =
      get_or-append front tail 0 i (omega (arith, long))
      ∙ ap (λ (xs : List ℕ). get_or xs i 0) e
      ∙ get_or-take m text i 0 l

  pub row_behind : (n : ℕ) → ZeroFrom m (front ++ drop m (replicate n 0))
  row_behind n i l =
      get_or-append_right front (drop m (replicate n 0)) i 0 (omega (arith, long))
      ∙ get_or-drop m (replicate n 0) (i - length front) 0
      ∙ zeros n (m + (i - length front))

  pub row_is : (n k : ℕ) → m ≡ min (n + 2) (length text) → ends_in n (front ++ drop m (replicate k 0)) ≡ ends_in n text
  row_is n k s = same_ends n (front ++ drop m (replicate k 0)) text (λ j l. under j m (λ u. there (drop m (replicate k 0)) j u)
      (λ u. row_behind k j u ∙ sym (get_or-eq_default text 0 {n = j} (omega arith))))
