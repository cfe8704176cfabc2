-- The bytes that are pending between two pieces: their test, the seam with the next piece, and what of a text is settled first.
use Rattle.std.specs.Prelude.{ℕ, Bool, cond, ◌&&◌, List, [], ◌∷◌, ◌++◌, length, take, drop, leb}
use Rattle.theory.specs.Reader.{Reader, Segment, first, pending}
use Rattle.terms.specs.Limits.{most_pending}
use Rattle.terms.specs.declared.First.{First}
use Rattle.terms.specs.declared.First.TheVariants.{Nothing, Whole, Damage, Begun}
use Rattle.utf8.specs.Pending.{zeros}
use Rattle.utf8_pending.specs.declared.Seam.{Seam}

-- the segment that stands first in a text, if it is settled
unfoldable pub first_settled : {K : Type 0} → Reader K → List ℕ → List (Segment K)
first_settled look [] = []
first_settled look (x ∷ xs) = cond (look x xs).sure (first look x xs ∷ []) []

-- how many bytes of a text are settled by what the reader told of it
abbrev pub settled_size : First → ℕ
settled_size Nothing = 0
settled_size (Whole n) = n
settled_size (Damage n cause) = n
settled_size (Begun n) = 0

-- THE TEST OF n PENDING BYTES, by any reader: at most 3, nothing of them settled, and unused ones 0. By the reader of UTF-8, nothing
-- of them is settled exactly if they are empty or a proper beginning of a well-formed sequence.
abbrev pub is_tail : {K : Type 0} → Reader K → List ℕ → ℕ → Bool
is_tail look held n = leb n most_pending && pending look (take n held) && zeros (drop n held)

-- THE SEAM: the first four bytes of what is pending and a piece behind it, or all of them
abbrev pub four : List ℕ → List ℕ → List ℕ
four tail piece = take 4 (tail ++ piece)

-- it is empty where nothing is pending, as the piece is then read where it lies
abbrev pub seamed : List ℕ → List ℕ → List ℕ
seamed [] piece = []
seamed (x ∷ xs) piece = four (x ∷ xs) piece

-- up to four bytes in four places; unused ones are 0
abbrev pub placed : List ℕ → Seam
placed run = record { bytes = take 4 (run ++ 0 ∷ 0 ∷ 0 ∷ 0 ∷ []); size = length run }

abbrev pub seam_of : List ℕ → ℕ → List ℕ → Seam
seam_of held n piece = placed (four (take n held) piece)

abbrev pub seam_with : List ℕ → ℕ → List ℕ → Seam
seam_with held n piece = placed (seamed (take n held) piece)
