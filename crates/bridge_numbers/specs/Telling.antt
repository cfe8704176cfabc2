-- What a call tells: numbers in a lent slice, and how many they are.
use Rattle.std.specs.Prelude.{◌≡◌, ℕ, Bool, cond, List, ◌++◌, length, take, drop, replicate, leb}
use Rattle.bridge_numbers.specs.declared.telling.Said.{Said}

-- the most numbers that are said of an answer
abbrev pub places : ℕ
places = 5

-- what is said of an answer
abbrev pub saying : Said → List ℕ
saying s = take s.count s.numbers

-- how numbers are said: 0 stands in the places behind them
abbrev pub said_of : List ℕ → Said
said_of said = record { numbers = take places (said ++ replicate places 0); count = length said }

-- numbers stand at the start of a slice, and the places behind keep what they held
abbrev pub put : List ℕ → List ℕ → List ℕ
put said says = said ++ drop (length said) says

-- a slice has room for whatever a call tells
abbrev pub roomy : List ℕ → Bool
roomy says = leb 8 (length says)

-- the reply where nothing is called
abbrev pub not_called : ℕ
not_called = 18446744073709551615

-- WHAT A CALL TELLS, and that nothing is told where it is not called
pub record Tells (called : Bool) (said says says' : List ℕ) (r : ℕ) : Type 0 where
  pub reply : r ≡ cond called (length said) not_called
  pub told : says' ≡ cond called (put said says) says
