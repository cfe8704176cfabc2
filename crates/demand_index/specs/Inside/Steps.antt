-- What a build in pieces answers and leaves, and when it may refuse.
use Rattle.std.specs.Prelude.{◌≡◌, ℕ, Bool, ◌||◌, List, ltb}
use Rattle.terms.specs.Limits.{limit}
use Rattle.index_checkpoint.specs.Checkpoints.{needed}
use Rattle.demand_index.specs.Builds.{Build}

-- the text is over the limit, or the row is too short for its index
abbrev pub may_refuse : ℕ → ℕ → Bool
may_refuse long room = ltb limit long || ltb room (needed long)

-- what is answered and left
pub record Builds (b : Build) (row' : List ℕ) (r : Bool) : Type 0 where
  pub answer : r ≡ b.done
  pub row_is : row' ≡ b.row
