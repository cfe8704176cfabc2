-- Calls that must be refused: what they leave as it was, and the number that is due.
use Rattle.std.specs.Prelude.{◌≡◌, ℕ, Bool, true, List, [], ◌∷◌, get_or, take}
use Rattle.terms.specs.declared.Decoder.{Decoder}
use Rattle.decoder.specs.Checks.{admitted}
use Rattle.decoder.specs.Feeding.{feed_says}

-- the bytes of such calls: as many as cannot all be pending
abbrev pub bytes : List ℕ
bytes = 0x41 ∷ 0x41 ∷ 0x41 ∷ 0x41 ∷ []

-- the number of what a feed of the first of them answers
abbrev pub number_of : Decoder → ℕ → List ℕ → List ℕ → ℕ
number_of d size out list = get_or (feed_says d (take size bytes) out list) 0 0

-- the number that is due to a feed of so many bytes with no output, where they settle something: by the order of the checks
abbrev pub due_to : Decoder → ℕ → ℕ → ℕ
due_to d size row = get_or (admitted d size row (3 ∷ [])) 0 0

-- the answer is yes, and the output and the list are as they were
pub record Refuses (out list out' list' : List ℕ) (r : Bool) : Type 0 where
  pub yes : r ≡ true
  pub output : out' ≡ out
  pub entries : list' ≡ list
