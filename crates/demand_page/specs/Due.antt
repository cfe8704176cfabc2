-- Whether a refusal on the way from bytes into a page was due, from what it tells.
use Rattle.std.specs.Prelude.{ℕ, Bool, cond, ◌&&◌, List, get_or, ltb, leb, eqb}
use Rattle.terms.specs.Told.{is_granted}
use Rattle.demand_convert.specs.Due.{due_there}

-- 10 where the strict check accepts, with the offset that a plain walk finds; 3 where it accepts and the page lacks nothing, and the room is
-- less than needed, and no more is needed than there are bytes; 1 and 2 as in any strict conversion
abbrev pub due_into : List ℕ → List ℕ → ℕ → ℕ → ℕ → Bool
due_into says check held long room =
    cond (eqb (get_or says 0 0) 10) (is_granted check && ltb held long && eqb (get_or says 1 0) held)
    (cond (eqb (get_or says 0 0) 3) (is_granted check && eqb held long && ltb room (get_or says 1 0) && leb (get_or says 1 0) long)
    (due_there says check long room long))
