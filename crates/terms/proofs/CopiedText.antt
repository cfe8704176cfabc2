-- A text that is copied to the start of an output, element by element.
use mathlib.Core.Path.{◌≡◌, ◌∙◌}
use Prim.Native.Nat.{ℕ, ◌+◌, ◌≤◌, ◌<◌}
use native.Mathlib.Nat.{zero-add}
use native.Mathlib.Numerals.{add-one}
use mathlib.Core.List.{List, ◌++◌}
use lib.ListN.{length, get_or, take, drop, set}
use lib.Seq.{paste-suc, take_all}
use native.Mathlib.Omega.{arith}

-- one element more
pub copied_next : (text out₀ out : List ℕ) (n : ℕ) → n < length text → n < length out₀ → out ≡ take n text ++ drop n out₀
    → set out n (get_or text n 0) ≡ take (n + 1) text ++ drop (n + 1) out₀
copied_next text out₀ out n h k e = rw (e, add-one n) (simp zero-add at (paste-suc out₀ 0 text n 0 (omega arith) h))

-- all of them
pub copied_end : (text out₀ out : List ℕ) (n k : ℕ) → n ≡ length text → k ≡ n → out ≡ take k text ++ drop k out₀ → out ≡ text ++ drop n out₀
copied_end text out₀ out n k l h e =
    let f : length text ≤ n = omega arith in
    e ∙ rw (h, take_all n text f)
