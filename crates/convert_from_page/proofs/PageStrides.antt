-- The strides of the writer: a run of bytes below 0x80 as it is, or some bytes by their numbers.
use mathlib.Core.Path.{◌≡◌, sym, ap}
use Prim.Native.Nat.{ℕ, ◌≤◌, ◌<◌}
use mathlib.Core.List.{List, ◌++◌}
use lib.ListN.{length, take, drop, length-append}
use lib.Seq.{length-take-le, get_or-take}
use native.Mathlib.Omega.{arith}
use Rattle.terms.specs.Form.{converted}
use Rattle.copy.proofs.Copied.{copied_whole}
use Rattle.ascii.specs.Ascii.{Ascii, run_of}
use Rattle.ascii.proofs.Leading.{run-few, run-ascii}
use Rattle.utf8.specs.Scalar.{utf8}
use Rattle.page.specs.Paged.{paged, Keeps}
use Rattle.convert_point.specs.Puts.{Puts}
use Rattle.convert_point.specs.Inside.Passes.{PassesTo}
use Rattle.convert_from_page.proofs.PageBytes.{form-parts, ascii-form}

module _ (table text out : List ℕ) (room : length (converted (paged table) utf8 text) ≤ length out) where
  -- a run that was found in the first `near` bytes
  module _ (keeps : Keeps table) (near : ℕ) (h : near ≤ length text) (n : ℕ) (e : n ≡ run_of (take near text)) where
    run-near : n ≤ near
    run-near = omega (arith, e, run-few (take near text), length-take-le near text h)

    pub run_long : length (take n text) ≡ n
    run_long = length-take-le n text (omega (arith, run-near))

    run-below : Ascii text n
    run-below k l = rw (get_or-take near text k 0 (omega (arith, run-near))) at (run-ascii (take near text) k (omega (arith, e)))

    parted : converted (paged table) utf8 text ≡ take n text ++ converted (paged table) utf8 (drop n text)
    parted = ascii-form table keeps text n (omega (arith, run-near)) run-below

    pub run-passes : 0 < n → (out' : List ℕ) → out' ≡ take (length out) (take n text) ++ drop (length (take n text)) out
        → PassesTo (paged table) utf8 text out out' n n
    run-passes some out' c =
        let r : length (take n text) ≤ length out = omega (arith, room, ap length parted, length-append (take n text) (converted (paged table) utf8 (drop n text))) in
        record {
          passes = record { some = some; inside = omega (arith, run-near); form = take n text; count = sym run_long; parted = parted };
          puts = record { count = sym run_long; output = copied_whole (take n text) out out' r c };
        }

  -- the first m bytes
  module _ (m : ℕ) (some : 0 < m) (h : m ≤ length text) where
    some-long : length (take m text) ≡ m
    some-long = length-take-le m text h

    pub some-room : (0 < length (take m text)) × (length (converted (paged table) utf8 (take m text)) ≤ length out)
    some-room = (
      omega (arith, some-long),
      omega (arith, room, ap length (form-parts table text m), length-append (converted (paged table) utf8 (take m text)) (converted (paged table) utf8 (drop m text))),
    )

    pub some-passes : (out' : List ℕ) (put : ℕ) → Puts (converted (paged table) utf8 (take m text)) out out' put → PassesTo (paged table) utf8 text out out' m put
    some-passes out' put p = record {
      passes = record { some = some; inside = h; form = converted (paged table) utf8 (take m text); count = p.count; parted = form-parts table text m };
      puts = p;
    }
