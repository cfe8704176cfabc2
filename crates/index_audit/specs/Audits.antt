-- What the audit says of a text and an index.
use Rattle.std.specs.Prelude.{ℕ, Bool, true, false, ◌&&◌, List, [], ◌∷◌, length, take, leb, eqb}
use Rattle.terms.specs.Limits.{limit}
use Rattle.index_checkpoint.specs.Checkpoints.{needed, index_of}

abbrev pub same : List ℕ → List ℕ → Bool
same [] [] = true
same [] (y ∷ ys) = false
same (x ∷ xs) [] = false
same (x ∷ xs) (y ∷ ys) = eqb x y && same xs ys

-- THE AUDIT: the text is within the limit, the buffer is long enough, and its first numbers are those of the text's index
abbrev pub audit_says : List ℕ → List ℕ → Bool
audit_says text row =
    leb (length text) limit && leb (needed (length text)) (length row) && same (take (needed (length text)) row) (index_of text)
