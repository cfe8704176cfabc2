-- The boundaries of a byte text, and that a match lies between two of them.
use Rattle.std.specs.Prelude.{ℕ, ◌+◌, ◌≡◌, List, ◌++◌, length}
use Rattle.theory.specs.Reader.{Segment, cut}
use Rattle.theory.specs.Table.{Kind}
use Rattle.theory.specs.Tally.{total, size}
use Rattle.utf8.specs.Bytes.{bytes}

-- an offset is a boundary of a text: so many bytes are those of its first segments, of none of them or of some
pub record Boundary (text : List ℕ) (offset : ℕ) : Type 0 where
  pub front : List (Segment Kind)
  pub behind : List (Segment Kind)
  pub divided : cut bytes text ≡ front ++ behind
  pub sized : total size front ≡ offset

-- A MATCH BEGINS AND ENDS AT BOUNDARIES of the entry
pub record Bounded (entry needle : List ℕ) (k : ℕ) : Type 0 where
  pub begin : Boundary entry k
  pub end : Boundary entry (k + length needle)
