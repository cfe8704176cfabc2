-- Whether a refusal was due, from what it tells.
use Rattle.std.specs.Prelude.{ℕ, Bool, cond, ◌&&◌, ◌||◌, List, get_or, ltb, leb, eqb}
use Rattle.terms.specs.Limits.{limit}
use Rattle.terms.specs.Told.{is_granted}

-- two answers tell the same number and the same values
abbrev pub same_told : List ℕ → List ℕ → Bool
same_told says check =
    eqb (get_or says 0 0) (get_or check 0 0)
    && eqb (get_or says 1 0) (get_or check 1 0)
    && eqb (get_or says 2 0) (get_or check 2 0)
    && eqb (get_or says 3 0) (get_or check 3 0)

-- damage was met, or a number that is no scalar value
abbrev pub is_strict : List ℕ → Bool
is_strict says = eqb (get_or says 0 0) 1 || eqb (get_or says 0 0) 9

-- ON THE WAY THERE, for a text of so many elements: 1 and 9 as the strict check tells them; 2 over the limit; 3 where the
-- check accepts and the room is less than needed, and no more is needed than such a text can need
abbrev pub due_there : List ℕ → List ℕ → ℕ → ℕ → ℕ → Bool
due_there says check long room most =
    cond (is_strict says) (same_told says check)
    (cond (eqb (get_or says 0 0) 2) (ltb limit long)
    (eqb (get_or says 0 0) 3 && is_granted check && ltb room (get_or says 1 0) && leb (get_or says 1 0) most))

-- ON THE WAY BACK, from so many elements: 2 over the limit; 3 where the room is less than needed, and as much is needed as the text
-- has elements
abbrev pub due_back : List ℕ → ℕ → ℕ → ℕ → Bool
due_back says long room text =
    cond (eqb (get_or says 0 0) 2) (ltb limit long)
    (eqb (get_or says 0 0) 3 && ltb room (get_or says 1 0) && eqb (get_or says 1 0) text)
