-- A run of whole segments that are settled, which is counted from checkpoint to checkpoint.
use Rattle.std.specs.Prelude.{◌≡◌, ℕ, ◌-◌, ◌<◌, false, cond, List, [], ◌++◌, drop, eqb}
use Rattle.theory.specs.Reader.{Segment, cut}
use Rattle.theory.specs.Tally.{total, size, entries}
use Rattle.theory.specs.Table.{Kind, is_damage}
use Rattle.utf8.specs.Bytes.{bytes}
use Rattle.utf8_check.specs.Run.{whole_run}
use Rattle.place.specs.Lines.{waits_behind}
use Rattle.place.specs.declared.Place.{Place}
use Rattle.index_build.specs.Inside.Steps.{Walks}

-- the first n bytes of a text are segments without damage, and none of them is a 0D that ends the text
pub record Settled (text : List ℕ) (n : ℕ) : Type 0 where
  pub front : List (Segment Kind)
  pub behind : List (Segment Kind)
  pub divided : cut bytes text ≡ front ++ behind
  pub sized : total size front ≡ n
  pub whole : entries is_damage 0 front ≡ []
  pub free : (k : ℕ) → k < n → waits_behind (drop k text) [] ≡ false

-- how many they are: all before the first damage, but for that 0D
abbrev pub settled_run : List ℕ → ℕ
settled_run text =
    let n = whole_run text in
    cond (eqb n 0) n (cond (waits_behind (drop (n - 1) text) []) (n - 1) n)

pub record Runs (from : Place) (text : List ℕ) (n : ℕ) (row : List ℕ) : Type 0 where
  pub walks : Walks from text row
  pub settled : Settled text n
