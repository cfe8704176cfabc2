-- The states and a place, as numbers in a lent slice.
use Rattle.std.specs.Prelude.{ℕ, ◌%◌, Bool, cond, ◌&&◌, List, [], ◌∷◌, length, get_or, leb, ltb, eqb}
use Rattle.terms.specs.Limits.{most_pending}
use Rattle.terms.specs.declared.Decoder.{Decoder}
use Rattle.terms.specs.declared.First.{First}
use Rattle.terms.specs.declared.First.TheVariants.{Nothing, Whole, Damage, Begun}
use Rattle.decoder_from_utf16.specs.declared.UnitDecoder.{UnitDecoder}
use Rattle.place.specs.declared.Offset.{Offset}
use Rattle.place.specs.declared.Offset.TheVariants.{Byte, Unit, Point, Line}
use Rattle.place.specs.declared.Place.{Place}
use Rattle.index_build.specs.declared.state.Builder.{Builder}
use Rattle.bridge_numbers.specs.Telling.{put, roomy}

-- a slice of at least so many numbers, and at least three, of which the first three are held bytes
abbrev pub is_state : ℕ → List ℕ → Bool
is_state n s = leb n (length s) && leb most_pending (length s) && ltb (get_or s 0 0) 256 && ltb (get_or s 1 0) 256 && ltb (get_or s 2 0) 256

-- a call is made where its state is one, and where there is room to tell
abbrev pub ready : ℕ → List ℕ → List ℕ → Bool
ready n state says = is_state n state && roomy says

-- the held bytes of a slice; a number that is no byte is taken by its last eight bits
abbrev pub held_of : List ℕ → List ℕ
held_of s = (get_or s 0 0 % 256) ∷ (get_or s 1 0 % 256) ∷ (get_or s 2 0 % 256) ∷ []

-- numbers are kept in a slice that has so many places
abbrev pub kept : ℕ → List ℕ → List ℕ → List ℕ
kept n numbers state = cond (leb n (length state)) (put numbers state) state

-- the decoder's state: held, pending, taken, whole, damaged, count, room
abbrev pub decoder_of : List ℕ → Decoder
decoder_of s = record {
  held = held_of s;
  pending = get_or s 3 0;
  taken = get_or s 4 0;
  whole = get_or s 5 0;
  damaged = get_or s 6 0;
  count = get_or s 7 0;
  room = get_or s 8 0;
}

abbrev pub decoder_numbers : Decoder → List ℕ
decoder_numbers d =
    get_or d.held 0 0 ∷ get_or d.held 1 0 ∷ get_or d.held 2 0 ∷ d.pending ∷ d.taken ∷ d.whole ∷ d.damaged ∷ d.count ∷ d.room ∷ []

-- a slice of at least seven numbers, of which the first is a unit; and the state of the decoder of units that it is: held, pending, taken,
-- whole, damaged, count, room
abbrev pub is_unit_state : List ℕ → Bool
is_unit_state s = leb 7 (length s) && ltb (get_or s 0 0) 0x10000

abbrev pub unit_ready : List ℕ → List ℕ → Bool
unit_ready state says = is_unit_state state && roomy says

abbrev pub unit_decoder_of : List ℕ → UnitDecoder
unit_decoder_of s = record {
  held = (get_or s 0 0 % 0x10000) ∷ [];
  pending = get_or s 1 0;
  taken = get_or s 2 0;
  whole = get_or s 3 0;
  damaged = get_or s 4 0;
  count = get_or s 5 0;
  room = get_or s 6 0;
}

abbrev pub unit_decoder_numbers : UnitDecoder → List ℕ
unit_decoder_numbers d = get_or d.held 0 0 ∷ d.pending ∷ d.taken ∷ d.whole ∷ d.damaged ∷ d.count ∷ d.room ∷ []

-- the builder's state: held, pending, taken, units, points, lines
abbrev pub builder_of : List ℕ → Builder
builder_of s = record {
  held = held_of s;
  pending = get_or s 3 0;
  taken = get_or s 4 0;
  units = get_or s 5 0;
  points = get_or s 6 0;
  lines = get_or s 7 0;
}

abbrev pub builder_numbers : Builder → List ℕ
builder_numbers b =
    get_or b.held 0 0 ∷ get_or b.held 1 0 ∷ get_or b.held 2 0 ∷ b.pending ∷ b.taken ∷ b.units ∷ b.points ∷ b.lines ∷ []

-- a place has four numbers, and there are four measures
abbrev pub asked : List ℕ → ℕ → Bool
asked from kind = leb 4 (length from) && ltb kind 4

-- the measure of a kind
abbrev pub measure_of : ℕ → Place → ℕ
measure_of kind =
    cond (eqb kind 0) (λ p. p.bytes) (cond (eqb kind 1) (λ p. p.units) (cond (eqb kind 2) (λ p. p.points) (λ p. p.lines)))

-- an offset of so many in the measure of a kind
abbrev pub offset_of : ℕ → ℕ → Offset
offset_of kind n =
    cond (eqb kind 0) (Byte (record { 0 = n })) (cond (eqb kind 1) (Unit (record { 0 = n })) (cond (eqb kind 2) (Point (record { 0 = n })) (Line (record { 0 = n }))))

-- what stands first, by its kind, its size and the cause of damage
abbrev pub first_of : ℕ → ℕ → ℕ → First
first_of kind n cause =
    cond (eqb kind 0) Nothing (cond (eqb kind 1) (Whole n) (cond (eqb kind 2) (Damage n (record { 0 = cause })) (Begun n)))
