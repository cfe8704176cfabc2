-- What is said of held bytes and of a seam.
use Rattle.std.specs.Prelude.{ℕ, List, [], ◌∷◌, get_or}
use Rattle.utf8_pending.specs.declared.Seam.{Seam}

abbrev pub three : List ℕ → List ℕ
three s = get_or s 0 0 ∷ get_or s 1 0 ∷ get_or s 2 0 ∷ []

-- a seam's size and its four bytes
abbrev pub seam_numbers : Seam → List ℕ
seam_numbers s = s.size ∷ get_or s.bytes 0 0 ∷ get_or s.bytes 1 0 ∷ get_or s.bytes 2 0 ∷ get_or s.bytes 3 0 ∷ []
