-- The settled segment that stands first in a byte text, as the reader of pieces tells it and as the tally takes it.
use mathlib.Core.Path.{◌≡◌, sym, ap, ◌∙◌}
use Prim.Native.Nat.{ℕ, ◌≤◌}
use mathlib.Core.Bool.{Bool, true, false}
use mathlib.Core.List.{List, []}
use lib.ListN.{length}
use native.Mathlib.Omega.{arith}
use Rattle.theory.specs.Reader.{Parts, parts}
use Rattle.theory.specs.Table.{ended, Kind, whole, damage}
use Rattle.theory.specs.Tally.{total, size}
use Rattle.terms.specs.Told.{number_of, told_first, first_says, size_of}
use Rattle.terms.specs.declared.First.{First}
use Rattle.terms.specs.declared.First.TheVariants.{Nothing, Whole, Damage, Begun}
use Rattle.terms.proofs.WalkBySegments.{Seen, seen}
use Rattle.utf8.specs.Bytes.{bytes}
use Rattle.utf8.proofs.RowsOfBytes.{bytes_division}
use Rattle.utf8_pending.specs.Tail.{settled_size}
use Rattle.utf8_pending.proofs.SettledFirst.{bytes-short, settled-none, told-size}
use Rattle.decoder_shared.proofs.TalliedWalk.{first_of}
use Rattle.decoder.proofs.SettledByReader.{first_is}

module _ (r : First) (text : List ℕ) (e : told_first r ≡ first_says bytes text) where
  pub first-size : settled_size r ≡ total size (first_of bytes text)
  first-size = told-size r text e ∙ ap (total size) (first_is text)

  -- where nothing is settled
  pub first-none : settled_size r ≡ 0 → (parts bytes text).done ≡ []
  first-none z = ap (λ (p : Parts Kind). p.done) (settled-none bytes-short text (sym (told-size r text e) ∙ z)).1

-- what is told lies in the text
seen-inside : (text : List ℕ) (n : ℕ) {kind : Kind} {sure : Bool} → Seen bytes text n kind sure → n ≤ length text
seen-inside text n s = rw s.text-is (omega (arith, s.long-is, bytes_division.fits s.head s.tail))

pub told-inside : (r : First) (text : List ℕ) → told_first r ≡ first_says bytes text → size_of r ≤ length text
told-inside Nothing text e = omega arith
told-inside (Whole n) text e = seen-inside text n (seen bytes text n whole true e)
told-inside (Damage n c) text e = seen-inside text n (seen bytes text n (damage (number_of c)) true e)
told-inside (Begun n) text e = seen-inside text n (seen bytes text n (damage ended) false e)
