-- What a writer leaves: elements at the start of an output, and their number; those of one code point, where they fit.
use Rattle.std.specs.Prelude.{◌≡◌, ℕ, cond, ◌||◌, List, [], ◌++◌, length, drop, ltb}
use Rattle.terms.specs.Form.{Form}

-- a number's elements in a form, where an output of so many places has room for them; none for a number above 0x10FFFF
abbrev pub fitting : Form → ℕ → ℕ → List ℕ
fitting G room c = cond (ltb room (length (G.write c)) || ltb 0x10FFFF c) [] (G.write c)

-- these elements are put, and so many they are; the places behind them keep what they held
pub record Puts (vs out out' : List ℕ) (n : ℕ) : Type 0 where
  pub count : n ≡ length vs
  pub output : out' ≡ vs ++ drop (length vs) out
