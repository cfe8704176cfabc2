-- A stride of the writer: some bytes of a text are passed over, and the units that they spell are written.
use Rattle.std.specs.Prelude.{◌≡◌, ℕ, suc, ◌≤◌, Option, Some, None, List, [], ◌∷◌, ◌++◌, length, drop}
use Rattle.convert_from_utf8.specs.declared.spelling.Sequence.{Sequence}
use Rattle.convert_point.specs.Puts.{Puts}
use Rattle.convert_from_utf8.specs.Inside.Spell.{wants, units, spelled}

-- the bytes passed over spell vs, and these are put; nothing is passed over only where nothing is spelled
pub record Strides (text out out' : List ℕ) (passed put : ℕ) : Type 0 where
  pub inside : passed ≤ length text
  pub vs : List ℕ
  pub same : spelled text ≡ vs ++ spelled (drop passed text)
  pub puts : Puts vs out out' put
  pub ended : passed ≡ 0 → spelled text ≡ []

-- a sequence of at most two bytes is taken, or none: never none where one of two begins
abbrev pub Short : ℕ → ℕ → Option Sequence → Type 0
Short a b None = 0x80 ≤ a → 0xE0 ≤ a
Short a b (Some s) = (s.size ≤ 2) × (s.size ≡ suc (wants a)) × ((c d : ℕ) → units a b c d ≡ s.unit ∷ [])
