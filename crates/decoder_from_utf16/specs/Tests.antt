-- The tests of a state of the decoder of units.
use Rattle.std.specs.Prelude.{ℕ, ◌+◌, Bool, cond, ◌&&◌, List, get_or, leb, eqb}
use Rattle.terms.specs.Limits.{limit, most_room}
use Rattle.decoder_from_utf16.specs.declared.UnitDecoder.{UnitDecoder}

-- a first half of a pair
abbrev pub is_half : ℕ → Bool
is_half x = leb 0xD800 x && leb x 0xDBFF

-- nothing is pending, and its place is 0; or one unit of 0xD800..0xDBFF
abbrev pub is_tail : List ℕ → ℕ → Bool
is_tail held n = cond (eqb n 0) (eqb (get_or held 0 0) 0) (eqb n 1 && is_half (get_or held 0 0))

-- whole, damaged and pending units are those taken; taken within the limit; as many damages as damaged units; room at most 4,096
abbrev pub balanced : UnitDecoder → Bool
balanced d =
    eqb (d.whole + d.damaged + d.pending) d.taken
    && leb d.taken limit
    && eqb d.count d.damaged
    && leb d.room most_room

-- THE TESTS OF A STATE
abbrev pub sound : UnitDecoder → Bool
sound d = is_tail d.held d.pending && balanced d
