-- One code point at the start of an output: elements that are stored one by one, and a walk that has room puts them all.
use mathlib.Core.Path.{◌≡◌, sym, ap, ◌∙◌}
use Prim.Native.Nat.{ℕ, zero, ◌+◌, ◌≤◌}
use mathlib.Core.Bool.{true}
use mathlib.Core.List.{List}
use lib.ListN.{length}
use lib.Seq.{sets}
use borrow.Author.Tests.{le-ltb}
use native.Mathlib.Omega.{arith}
use Rattle.theory.proofs.Rows.{sets-start}
use Rattle.terms.specs.Form.{is_scalar, Form, converted}
use Rattle.terms.proofs.FaithfulForms.{scalar_top}
use Rattle.terms.proofs.WalkWrites.{Met, lent, back, Wrote, wrote-room, wrote-next}
use Rattle.convert_point.specs.Puts.{fitting, Puts}

pub puts_sets : (vs ws out : List ℕ) → vs ≡ ws → length vs ≤ length out → Puts vs out (sets out zero ws) (length ws)
puts_sets vs ws out e h = record { count = ap length (sym e); output = ap (sets out zero) (sym e) ∙ sets-start out vs h }

module _ (G : Form) (c : ℕ) (out : List ℕ) where
  pub fits : length (G.write c) ≤ length out → c ≤ 0x10FFFF → fitting G (length out) c ≡ G.write c
  fits h k = rw (le-ltb (length out) (length (G.write c)) h, le-ltb 0x10FFFF c k)

  -- a scalar value that has room
  put_whole : is_scalar c ≡ true → length (G.write c) ≤ length out → (out' : List ℕ) (n : ℕ) → Puts (fitting G (length out) c) out out' n → Puts (G.write c) out out' n
  put_whole s h out' n p = rw (fits h (omega (arith, scalar_top c s))) at p

-- the code point that a walk has met, in the part of the output that is lent
module _ (F G : Form) (text out₀ out : List ℕ) (at n : ℕ) (w : Wrote F G text out₀ out at n) (room : length (converted F G text) ≤ length out₀)
    (k c : ℕ) (m : Met F text at k c) where
  pub wrote-put : (ys : List ℕ) (put : ℕ) → Puts (fitting G (length (lent out n)) c) (lent out n) ys put → Wrote F G text out₀ (back out n ys) (at + k) (n + put)
  wrote-put ys put q =
      let p : Puts (G.write c) (lent out n) ys put
      = put_whole G c (lent out n) m.scalar (wrote-room F G text out₀ out at n w room k c m) ys put q in
      rw p.count (wrote-next F G text out₀ out at n w room k c m ys p.output)
