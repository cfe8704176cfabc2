-- A walk over windows of four bytes: each of them is the start of what is left.
use Prim.Native.Nat.{ℕ, ◌+◌, ◌<◌, ◌≤◌}
use mathlib.Core.Path.{◌≡◌, ap, ◌∙◌}
use mathlib.Core.List.{List}
use native.Mathlib.Omega.{arith}
use denote.Ref.{Bor}
use lib.ListN.{length, drop, get_or, length-drop}
use lib.Seq.{drop-drop, get_or-take}
use Rattle.std.proofs.Common.{Some, None}
use Rattle.std.specs.declared.slice.Windows.{Windows}
use Rattle.std.specs.Slice.Iter.{windows_size, windows_rest, windows_steps}

-- the windows that are left are those behind the first i
pub record Ahead (t : List ℕ) (s : Windows ℕ) (i : ℕ) : Type 0 where
  pub size : windows_size s ≡ 4
  pub rest : windows_rest s ≡ drop i t

module _ (t : List ℕ) (i : ℕ) (s u : Windows ℕ) (a : Ahead t s i) where
  long : length (windows_rest s) ≡ length (drop i t)
  long = ap length a.rest

  -- the next one
  module _ (w : Bor (List ℕ)) (n : windows_steps s (Some w) u) where
    pub ahead-inside : i + 3 < length t
    ahead-inside = omega (arith, a.size, n.1.0, long, length-drop i t)

    byte : (j : ℕ) → j < 4 → get_or w.now j 0 ≡ get_or (drop i t) j 0
    byte j h = rw (n.1.1, a.size, a.rest) (get_or-take 4 (drop i t) j 0 h)

    pub ahead-next : Ahead t u (i + 1)
    ahead-next = record { size = n.0 ∙ a.size; rest = n.1.2 ∙ ap (drop 1) a.rest ∙ drop-drop 1 i t }

    -- what is so of its bytes is so of the four that are left first
    pub ahead_same : (P : ℕ → ℕ → ℕ → ℕ → Type 0) → P (get_or w.now 0 0) (get_or w.now 1 0) (get_or w.now 2 0) (get_or w.now 3 0)
        → P (get_or (drop i t) 0 0) (get_or (drop i t) 1 0) (get_or (drop i t) 2 0) (get_or (drop i t) 3 0)
    ahead_same P h = rw (byte 0 (omega arith), byte 1 (omega arith), byte 2 (omega arith), byte 3 (omega arith)) at h

  -- there is none
  pub ahead-end : windows_steps s None u → length t ≤ i + 3
  ahead-end n = omega (arith, a.size, n.1.0, long, length-drop i t)
