-- Lookup in an index, whatever its numbers are.
use Rattle.std.specs.Prelude.{ℕ, Bool, cond, List, [], ◌∷◌, length, ltb}
use Rattle.theory.specs.Index.{by_bytes, by_halving}
use Rattle.terms.specs.Strict.{limited}
use Rattle.place.specs.Measures.{ruler, reader, longest}
use Rattle.place.specs.Lookup.{found_says}
use Rattle.place.specs.Walk.{fair}
use Rattle.place.specs.declared.Place.{Place}
use Rattle.index_checkpoint.specs.Checkpoints.{spacing, needed, checkpoint}

-- refusal 2, then 3 where the index has fewer numbers than the text's has
abbrev pub indexed : List ℕ → List ℕ → List ℕ → List ℕ
indexed text row granted = limited text (cond (ltb (length row) (needed (length text))) (3 ∷ needed (length text) ∷ []) granted)

-- LOOKUP BY BYTES: then 4, then from the checkpoint that division chooses; no segment is longer than `longest`
abbrev pub byte_says : ℕ → List ℕ → List ℕ → List ℕ
byte_says offset text row = indexed text row (found_says (by_bytes reader ruler longest spacing fair offset (checkpoint row) text))

-- LOOKUP BY ANOTHER MEASURE: from the checkpoint that halving chooses, by `leb` for units and code points, `ltb` for lines
abbrev pub halving_says : (Place → ℕ) → (ℕ → ℕ → Bool) → ℕ → List ℕ → List ℕ → List ℕ
halving_says measure less offset text row = indexed text row (found_says (by_halving reader ruler longest spacing fair measure less offset (checkpoint row) text))
