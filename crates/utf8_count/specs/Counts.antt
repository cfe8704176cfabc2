-- What a text counts: bytes that are no later bytes, bytes of 0xF0 or more, and line ends.
use Rattle.std.specs.Prelude.{ℕ, zero, suc, ◌+◌, cond, List, get_or, drop, leb, eqb}
use Rattle.theory.specs.Tally.{total}
use Rattle.utf8_scan.specs.Stands.{is_later}
use Rattle.utf8_count.specs.declared.Sums.{Sums}

abbrev pub start_of : ℕ → ℕ
start_of x = cond (is_later x) 0 1

abbrev pub four_of : ℕ → ℕ
four_of x = cond (leb 0xF0 x) 1 0

-- THE TWO SUMS OF A TEXT
abbrev pub sums_of : List ℕ → Sums
sums_of text = record { starts = total start_of text; fours = total four_of text }

-- a line ends behind what begins with x, where y and z stand behind it, 0 for each one missing: 0A, a 0D that no 0A follows, C2 85,
-- E2 80 A8 and E2 80 A9
unfoldable pub end_of : ℕ → ℕ → ℕ → ℕ
end_of x y z =
    cond (eqb x 0x0A) 1
    (cond (eqb x 0x0D) (cond (eqb y 0x0A) 0 1)
    (cond (eqb x 0xC2) (cond (eqb y 0x85) 1 0)
    (cond (eqb x 0xE2) (cond (eqb y 0x80) (cond (eqb z 0xA8) 1 (cond (eqb z 0xA9) 1 0)) 0) 0)))

-- behind what a text begins with
abbrev pub end_first : List ℕ → ℕ
end_first text = end_of (get_or text 0 0) (get_or text 1 0) (get_or text 2 0)

-- THE LINE ENDS that begin in a text's first n bytes; what stands behind those is looked at, and not counted
abbrev pub ends_in : ℕ → List ℕ → ℕ
ends_in zero text = zero
ends_in (suc n) text = end_first text + ends_in n (drop 1 text)
