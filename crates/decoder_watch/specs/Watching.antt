-- The watch: the state after one byte, and the reply.
use Rattle.std.specs.Prelude.{ℕ, ◌+◌}
use mathlib.Core.List.{List, [], ◌∷◌, foldl}
use Rattle.terms.specs.Checks.{tested}
use Rattle.terms.specs.Told.{if_granted}
use Rattle.terms.specs.declared.Decoder.{Decoder}
use Rattle.decoder.specs.State.{sound, fed, closed}
use Rattle.decoder_watch.specs.declared.Watched.{Watched}

-- refusal 8, then 2, and no other, since the watch needs no output and no list
abbrev pub watch_says : Decoder → List ℕ
watch_says d = tested (sound d) d.taken 1 (0 ∷ [])

-- the state of a feed of this one byte
abbrev pub fed_byte : Decoder → ℕ → Decoder
fed_byte d b = closed d (d.taken + 1) (fed d (b ∷ []) [])

-- the reply is the damage count, or on a refusal 4,294,967,295
abbrev pub counting : Decoder → Watched
counting d = record { state = d; reply = d.count }

abbrev pub refusing : Decoder → Watched
refusing d = record { state = d; reply = 4294967295 }

-- THE WATCH
unfoldable pub watching : Decoder → ℕ → Watched
watching d b = if_granted (watch_says d) (counting (fed_byte d b)) (refusing d)

-- the state after each of some bytes in turn; no contract cites it
abbrev pub watched_all : Decoder → List ℕ → Decoder
watched_all = foldl (λ (d : Decoder) (b : ℕ). (watching d b).state)
