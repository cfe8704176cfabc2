-- What is asked behind a watch and a feed: whether their states are the same, and whether a refusal was due.
use Rattle.std.specs.Prelude.{ℕ, ◌*◌, Bool, false, ◌&&◌, ltb, eqb}
use Rattle.terms.specs.Limits.{limit, most_room, entry_width}
use Rattle.terms.specs.declared.Decoder.{Decoder}
use Rattle.terms.specs.declared.Refusal.{Refusal}
use Rattle.terms.specs.declared.Refusal.TheVariants.{Damaged, OverLimit, NoRoom, PastEnd, Inside, Unusable, ListRoom, BadState, NoScalar, NotInPage}
use Rattle.demand_shared.specs.Equal.{equal}

-- every field, the held bytes one by one
abbrev pub same_state : Decoder → Decoder → Bool
same_state d e =
    equal d.held e.held
    && eqb d.pending e.pending
    && eqb d.taken e.taken
    && eqb d.whole e.whole
    && eqb d.damaged e.damaged
    && eqb d.count e.count
    && eqb d.room e.room

-- a feed of so many bytes to the fresh state of a room, with an output of so many places and a list of so many numbers, is refused
-- 8 for its room, 2 for the text, 7 for the list or 3 for the output, and for nothing else
abbrev pub is_due : Refusal → ℕ → ℕ → ℕ → ℕ → Bool
is_due (Damaged start length cause) long room places row = false
is_due OverLimit long room places row = ltb limit long
is_due (NoRoom needed) long room places row = ltb places needed
is_due PastEnd long room places row = false
is_due Inside long room places row = false
is_due (Unusable checkpoint) long room places row = false
is_due ListRoom long room places row = ltb row (entry_width * room)
is_due BadState long room places row = ltb most_room room
is_due (NoScalar position) long room places row = false
is_due (NotInPage offset) long room places row = false
