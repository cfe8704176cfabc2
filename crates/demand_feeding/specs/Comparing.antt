-- What is compared: whether a refusal was due, whether there is room, and the totals and entries of two ways.
use Rattle.std.specs.Prelude.{◌≡◌, ℕ, ◌*◌, min, ◌≤◌, Bool, true, cond, ◌&&◌, List, length, get_or, take, leb, ltb, eqb}
use Rattle.std.specs.Bool.{beq}
use Rattle.terms.specs.Limits.{limit, most_room, entry_width}
use Rattle.demand_shared.specs.Equal.{equal}
use Rattle.demand_feeding.specs.declared.Found.{Found}

-- the whole repair's refusal is due: 2 where the text is over the limit, 3 where there are fewer places than it says are needed
abbrev pub due : List ℕ → ℕ → ℕ → Bool
due says size places = cond (eqb (get_or says 0 0) 2) (ltb limit size) (eqb (get_or says 0 0) 3 && ltb places (get_or says 1 0))

abbrev pub same_totals : Found → Found → Bool
same_totals a b = eqb a.whole b.whole && (eqb a.damaged b.damaged && eqb a.count b.count)

-- THERE IS ROOM: for a start, for the entries in a list of so many numbers, and for a form of so many places in an output
abbrev pub enough : ℕ → ℕ → ℕ → ℕ → Bool
enough room row form places = leb room most_room && leb (entry_width * room) row && leb form places

-- the stored entries of so many damages
abbrev pub stored : ℕ → ℕ → List ℕ → List ℕ
stored room count list = take (entry_width * min room count) list

-- FOUND ALIKE, where the form has so many places and so many are lent, with a list, to each way: each is granted exactly where it has
-- room; and where both are, their totals are the same and their stored entries
abbrev pub found_alike : ℕ → ℕ → Found → ℕ → List ℕ → Found → ℕ → List ℕ → Bool
found_alike room form a once once-list b parts parts-list =
    beq a.granted (enough room (length once-list) form once)
    && beq b.granted (enough room (length parts-list) form parts)
    && cond (a.granted && b.granted) (same_totals a b && equal (stored room a.count parts-list) (stored room a.count once-list)) true

-- a way that was granted has written a form
pub record Wrote (form : List ℕ) (a : Found) (out : List ℕ) : Type 0 where
  pub within : a.written ≤ length out
  pub output : take a.written out ≡ form

-- what two ways, each in buffers of its own, have found beside the whole repair
pub record Fair (room : ℕ) (whole : List ℕ) (a : Found) (once once-list : List ℕ) (b : Found) (parts parts-list : List ℕ) : Type 0 where
  pub alike : found_alike room (length whole) a (length once) once-list b (length parts) parts-list ≡ true
  pub once-wrote : a.granted ≡ true → Wrote whole a once
  pub parts-wrote : b.granted ≡ true → Wrote whole b parts
