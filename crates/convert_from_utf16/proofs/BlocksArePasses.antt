-- Units as bytes: a block of alone units is a pass.
use mathlib.Core.Path.{◌≡◌, ap, ◌∙◌}
use Prim.Native.Nat.{ℕ, ◌≤◌, ◌<◌}
use mathlib.Core.Bool.{true}
use mathlib.Core.List.{List, [], ◌∷◌, ◌++◌}
use lib.ListN.{length, drop, length-append}
use native.Mathlib.Omega.{arith}
use Rattle.terms.specs.Form.{converted}
use Rattle.utf8.specs.Scalar.{utf8}
use Rattle.utf16.specs.Scalar.{utf16}
use Rattle.utf16.specs.Alone.{all_alone}
use Rattle.utf16.proofs.AloneDivides.{converted-alone}
use Rattle.convert_utf16_blocks.specs.Block.{bytes_of}
use Rattle.convert_point.specs.Inside.Passes.{Passes, PassesTo}

module _ (text xs : List ℕ) (p : all_alone xs ≡ true) (e : text ≡ xs ++ drop (length xs) text) where
  block-parted : converted utf16 utf8 text ≡ bytes_of xs ++ converted utf16 utf8 (drop (length xs) text)
  block-parted = ap (converted utf16 utf8) e ∙ converted-alone utf8 xs (drop (length xs) text) p

  module _ (read places : ℕ) (r : read ≡ length xs) (n : places ≡ length (bytes_of xs)) (some : 0 < read) where
    pub block-passes : Passes utf16 utf8 text read places
    block-passes = record {
      some = some;
      inside = omega (arith, ap length e, length-append xs (drop (length xs) text));
      form = bytes_of xs;
      count = n;
      parted = rw r block-parted;
    }

    pub block-passes-to : (out out' : List ℕ) → out' ≡ bytes_of xs ++ drop (length (bytes_of xs)) out → PassesTo utf16 utf8 text out out' read places
    unfolding block-passes
    block-passes-to out out' o = record { passes = block-passes; puts = record { count = n; output = o } }

-- where there is none, nothing was written
pub no_block : (xs out out' : List ℕ) → length xs ≤ 0 → out' ≡ bytes_of xs ++ drop (length (bytes_of xs)) out → out' ≡ out
no_block [] out out' h e = e
no_block (x ∷ xs) out out' h e = absurd (omega arith)
