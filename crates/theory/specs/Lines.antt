-- A reader of lines: the segments of any reader, and of each whether a line ends behind it. That may hang on the text behind the
-- segment, and where it waits for more of it the segment is not sure.
use Rattle.std.specs.Prelude.{ℕ, Bool, not, ◌&&◌, List}
use Rattle.theory.specs.Reader.{Reader, Segment, body, first, rest}

-- what a segment is, and whether a line ends behind it
pub record Lined (K : Type 0) : Type 0 where
  pub kind : K
  pub ends : Bool

-- the segment as it was without that
abbrev pub bare : {K : Type 0} → Segment (Lined K) → Segment K
bare s = record { head = s.head; tail = s.tail; tag = s.tag.kind }

-- what is said of a segment's elements and of the text behind it: whether a line ends there, and whether that waits for more text
pub record Rule : Type 0 where
  pub ends : List ℕ → List ℕ → Bool
  pub waits : List ℕ → List ℕ → Bool

-- THE READER OF LINES, by a rule
abbrev pub lined : {K : Type 0} → Reader K → Rule → Reader (Lined K)
lined look rule x xs =
    let elements = body (first look x xs) in
    let behind = rest look x xs in
    record {
      more = (look x xs).more;
      tag = record { kind = (look x xs).tag; ends = rule.ends elements behind };
      sure = (look x xs).sure && not (rule.waits elements behind);
    }
