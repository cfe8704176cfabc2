-- The builder's state: its tests, its last settled place, and what a call answers.
use Rattle.std.specs.Prelude.{ℕ, ◌+◌, ◌-◌, Bool, cond, ◌&&◌, List, [], ◌∷◌, take, leb, ltb}
use Rattle.terms.specs.Checks.{tested}
use Rattle.terms.specs.Limits.{limit, unheld}
use Rattle.utf8_pending.specs.Tail.{is_tail}
use Rattle.place.specs.Measures.{place, reader}
use Rattle.place.specs.declared.Place.{Place}
use Rattle.index_checkpoint.specs.Checkpoints.{needed}
use Rattle.index_build.specs.declared.state.Builder.{Builder}

abbrev pub fresh_builder : Builder
fresh_builder = record { held = unheld; pending = 0; taken = 0; units = 0; points = 0; lines = 0 }

-- the pending bytes, and the last settled place
abbrev pub left : Builder → List ℕ
left b = take b.pending b.held

abbrev pub settled_place : Builder → Place
settled_place b = place (b.taken - b.pending) b.units b.points b.lines

-- THE TESTS OF A STATE: at most 3 pending bytes, empty, a proper beginning of a well-formed sequence, or a lone 0D; unused ones 0;
-- taken within the limit; pending at most taken; lines ≤ code points ≤ units ≤ taken less pending
abbrev pub sound : Builder → Bool
sound b =
    is_tail reader b.held b.pending
    && leb b.taken limit
    && leb b.pending b.taken
    && leb b.lines b.points
    && leb b.points b.units
    && leb b.units (b.taken - b.pending)

-- ---- A CALL: refusal 8, 2, 3 in this order

abbrev pub build_says : Builder → ℕ → ℕ → List ℕ
build_says b more room =
    tested (sound b) b.taken more (cond (ltb room (needed (b.taken + more))) (3 ∷ needed (b.taken + more) ∷ []) (0 ∷ []))
