-- Where a line ends: what is said of the bytes of a segment and of the text behind it.
use Rattle.std.specs.Prelude.{ℕ, Bool, false, not, ◌&&◌, ◌||◌, List, [], ◌∷◌, ◌==◌}
use Rattle.theory.specs.Lines.{Rule}

-- 0A follows: it stands first in the text behind
abbrev pub followed : List ℕ → Bool
followed [] = false
followed (x ∷ xs) = x == 0x0A

-- A LINE ENDS after a segment 0A, after 0D unless 0A follows, after C2 85, E2 80 A8 and E2 80 A9, and nowhere else
unfoldable pub ends_line : List ℕ → List ℕ → Bool
ends_line [] behind = false
ends_line (x ∷ []) behind = x == 0x0A || (x == 0x0D && not (followed behind))
ends_line (x ∷ y ∷ []) behind = x == 0xC2 && y == 0x85
ends_line (x ∷ y ∷ z ∷ []) behind = x == 0xE2 && (y == 0x80 && (z == 0xA8 || z == 0xA9))
ends_line (x ∷ y ∷ z ∷ t ∷ ts) behind = false

-- whether one ends after a 0D waits for the byte behind it, where more text may come
unfoldable pub waits_behind : List ℕ → List ℕ → Bool
waits_behind [] behind = false
waits_behind (x ∷ []) [] = x == 0x0D
waits_behind (x ∷ []) (y ∷ behind) = false
waits_behind (x ∷ y ∷ ys) behind = false

abbrev pub line_rule : Rule
line_rule = record { ends = ends_line; waits = waits_behind }
