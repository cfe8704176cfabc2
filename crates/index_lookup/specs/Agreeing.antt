-- A row that is a text's index, and lookup by it that answers as plain lookup.
use Rattle.std.specs.Prelude.{◌≡◌, ℕ, List, length, take, leb, ltb}
use Rattle.place.specs.Lookup.{lookup_says}
use Rattle.index_checkpoint.specs.Checkpoints.{needed, index_of}
use Rattle.index_lookup.specs.Looking.{byte_says, halving_says}

-- the row's first numbers are the text's index
abbrev pub Indexes : List ℕ → List ℕ → Type 0
Indexes row text = take (needed (length text)) row ≡ index_of text

-- EACH OF THE FOUR LOOKUPS by the row answers as the plain one, whatever the offset
pub record AsPlain (row text : List ℕ) : Type 0 where
  pub bytes : (o : ℕ) → byte_says o text row ≡ lookup_says (λ p. p.bytes) o text
  pub units : (o : ℕ) → halving_says (λ p. p.units) leb o text row ≡ lookup_says (λ p. p.units) o text
  pub points : (o : ℕ) → halving_says (λ p. p.points) leb o text row ≡ lookup_says (λ p. p.points) o text
  pub lines : (o : ℕ) → halving_says (λ p. p.lines) ltb o text row ≡ lookup_says (λ p. p.lines) o text
