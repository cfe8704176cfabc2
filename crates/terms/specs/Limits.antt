-- The limits and the fresh state, which belong to the decoder.
use Rattle.std.specs.Prelude.{ℕ, List, [], ◌∷◌}
use Rattle.terms.specs.declared.Decoder.{Decoder}

-- the most bytes, units or code points of a text
abbrev pub limit : ℕ
limit = 16777216

-- the most entries of a damage list
abbrev pub most_room : ℕ
most_room = 4096

-- the numbers that a damage entry takes in its list: start, length and cause
abbrev pub entry_width : ℕ
entry_width = 3

-- the most bytes that are pending, and as many places, in which none is held
abbrev pub most_pending : ℕ
most_pending = 3

abbrev pub unheld : List ℕ
unheld = 0 ∷ 0 ∷ 0 ∷ []

-- the most bytes of a damage
abbrev pub most_damaged : ℕ
most_damaged = 3

-- nothing is taken, pending or counted
abbrev pub fresh_of : ℕ → Decoder
fresh_of room = record { held = unheld; pending = 0; taken = 0; whole = 0; damaged = 0; count = 0; room = room }
