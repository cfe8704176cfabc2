-- Conversion into a page: refusal 2, then the first damage, then the first code point that the page lacks, then 3.
use Rattle.std.specs.Prelude.{ℕ, ◌+◌, cond, List, [], ◌∷◌, ◌++◌, length}
use Rattle.theory.specs.Reader.{Segment, cut}
use Rattle.theory.specs.Table.{Kind}
use Rattle.theory.specs.Tally.{size}
use Rattle.terms.specs.Form.{point_of, converted}
use Rattle.terms.specs.Strict.{damages, strictly, damaged, limited}
use Rattle.terms.specs.Writing.{roomed}
use Rattle.utf8.specs.Bytes.{bytes}
use Rattle.utf8.specs.Scalar.{utf8}
use Rattle.page.specs.Paged.{has, paged}

-- where the code points stand that a page lacks, of segments of which the first starts at `at`
abbrev pub lacking : List ℕ → ℕ → List (Segment Kind) → List ℕ
lacking table at [] = []
lacking table at (s ∷ ss) = cond (has table (point_of utf8 s)) [] (at ∷ []) ++ lacking table (at + size s) ss

-- the first of some offsets, or another number where there is none
abbrev pub first_or : ℕ → List ℕ → ℕ
first_or other [] = other
first_or other (offset ∷ offsets) = offset

-- how many bytes come before the first code point that a page lacks: all of them where it lacks none
abbrev pub held_up_to : List ℕ → List ℕ → ℕ
held_up_to table text = first_or (length text) (lacking table 0 (cut bytes text))

-- a refusal of the first of them, with its offset, or what is granted if there is none
abbrev pub held_by : List ℕ → List ℕ → List ℕ
held_by [] granted = granted
held_by (offset ∷ offsets) granted = 10 ∷ offset ∷ []

-- STRICT CONVERSION INTO A PAGE
abbrev pub to_page_says : List ℕ → ℕ → List ℕ → List ℕ
to_page_says table room text =
    limited text
    (strictly damaged (damages bytes text)
    (held_by (lacking table 0 (cut bytes text)) (roomed room (converted utf8 (paged table) text))))
