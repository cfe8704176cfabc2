-- Blocks of alone units, and the bytes of units that each stand by themselves.
use Rattle.std.specs.Prelude.{◌≡◌, ℕ, Bool, true, cond, ◌&&◌, List, [], ◌∷◌, ◌++◌, length, take, drop, ltb, ◌<◌, Option, unwrap_or, IfSome}
use Rattle.theory.specs.Tally.{written}
use Rattle.utf8.specs.Scalar.{sequence}
use Rattle.utf16.specs.Alone.{all_alone}
use Rattle.convert_utf16_blocks.specs.declared.Part.{Part}

-- the first n units of a text where these pass a test, or none
abbrev pub opening : (List ℕ → Bool) → ℕ → List ℕ → List ℕ
opening test n text = cond (ltb (length text) n) [] (cond (test (take n text)) (take n text) [])

-- none, where an output has not so many places
abbrev pub within : ℕ → ℕ → List ℕ → List ℕ
within places room units = cond (ltb room places) [] units

-- the first 128 units of a text where these are alone, or none
abbrev pub block : List ℕ → List ℕ
block text = opening all_alone 128 text

-- none, where an output has not three places for each of them
abbrev pub roomy : ℕ → List ℕ → List ℕ
roomy room text = within 384 room (block text)

-- units below 0x80
abbrev pub low : List ℕ → Bool
low [] = true
low (x ∷ xs) = ltb x 0x80 && low xs

-- the first 16 units of a text where these are below 0x80 and an output has a place for each, or none
abbrev pub sixteen : ℕ → List ℕ → List ℕ
sixteen room text = within 16 room (opening low 16 text)

-- the bytes of units, each by itself
abbrev pub bytes_of : List ℕ → List ℕ
bytes_of units = written sequence units

-- what no part tells: no unit was read
abbrev pub no_part : Part
no_part = record { read = 0; places = 0 }

-- these units were read, and take so many places
pub record Counts (units : List ℕ) (r : Part) : Type 0 where
  pub read_is : r.read ≡ length units
  pub places_is : r.places ≡ length (bytes_of units)

-- and their bytes stand at the start of the output; the places behind keep what they held
pub record Puts (units out out' : List ℕ) (r : Part) : Type 0 where
  pub counts : Counts units r
  pub output : out' ≡ bytes_of units ++ drop (length (bytes_of units)) out

-- the same of a part that is answered only where some units were read
pub record CountsSome (units : List ℕ) (r : Option Part) : Type 0 where
  pub told : Counts units (unwrap_or r no_part)
  pub some : IfSome r (λ p. 0 < p.read)

pub record PutsSome (units out out' : List ℕ) (r : Option Part) : Type 0 where
  pub told : Puts units out out' (unwrap_or r no_part)
  pub some : IfSome r (λ p. 0 < p.read)
