-- The tests of a decoder's state.
use Rattle.std.specs.Prelude.{ℕ, ◌+◌, ◌*◌, Bool, ◌&&◌, List, take, leb, eqb}
use Rattle.terms.specs.Limits.{limit, most_room, most_damaged}
use Rattle.terms.specs.declared.Decoder.{Decoder}
use Rattle.utf8.specs.Bytes.{bytes}
use Rattle.utf8_pending.specs.Tail.{is_tail}

-- the pending bytes
abbrev pub left : Decoder → List ℕ
left d = take d.pending d.held

-- whole, damaged and pending bytes are those taken; taken within the limit; count ≤ damaged ≤ 3 × count; room at most 4,096
abbrev pub balanced : Decoder → Bool
balanced d =
    eqb (d.whole + d.damaged + d.pending) d.taken
    && leb d.taken limit
    && leb d.count d.damaged
    && leb d.damaged (most_damaged * d.count)
    && leb d.room most_room

-- THE TESTS OF A STATE: at most 3 pending bytes, empty or a proper beginning of a well-formed sequence, unused ones 0; and its
-- numbers balance
abbrev pub sound : Decoder → Bool
sound d = is_tail bytes d.held d.pending && balanced d
