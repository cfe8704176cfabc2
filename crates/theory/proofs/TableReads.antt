-- THE READER OF A TABLE reads the table's segments, in the paper's words, for any table whose rows do not meet.
use Prim.Native.Nat.{ℕ, zero}
use mathlib.Core.List.{List}
use Rattle.theory.specs.Table.{Row, read}
use Rattle.theory.specs.Sequence.{Reads}
use Rattle.theory.proofs.OneDivision.{Sound, stands_read, only-read, cut-divides, divides-once}
use Rattle.theory.proofs.PendingBegins.{pending-exactly}
use Rattle.theory.proofs.AcceptsWellFormed.{clean-exactly}

pub table-reads : (rows : List Row) (cause : ℕ → ℕ) → Sound zero rows → Reads rows cause (read rows cause)
table-reads rows cause s = record {
  stands = stands_read rows cause s;
  only = only-read rows cause s;
  divides = cut-divides rows cause s;
  once = divides-once rows cause s;
  holds = pending-exactly rows cause s;
  accepts = clean-exactly rows cause s;
}
