-- Calls of one caller, one after another, with a text that comes in pieces. A refused call is not counted.
-- No contract cites these; the theorems about many calls do.
use Rattle.std.specs.Prelude.{ℕ, Bool, cond}
use mathlib.Core.List.{List, [], ◌∷◌, ◌++◌, foldl}

-- What a call is to a caller who has such things, a state and what he lends: whether it is granted, the piece of the text that
-- it then takes, and what the caller has then.
pub record Calls (H C : Type 0) : Type 0 where
  pub grants : H → C → Bool
  pub piece : H → C → List ℕ
  pub goes : H → C → H

-- so far: what the caller has, and the pieces that were taken
pub record Course (H : Type 0) : Type 0 where
  pub caller : H
  pub pieces : List (List ℕ)

abbrev pub uncalled : {H : Type 0} → H → Course H
uncalled h = record { caller = h; pieces = [] }

module _ {H C : Type 0} (calls : Calls H C) where
  abbrev pub granted : Course H → C → Course H
  granted r c = record { caller = calls.goes r.caller c; pieces = r.pieces ++ calls.piece r.caller c ∷ [] }

  abbrev pub called : Course H → C → Course H
  called r c = cond (calls.grants r.caller c) (granted r c) r

  -- THE COURSE OF CALLS
  abbrev pub course : H → List C → Course H
  course h = foldl called (uncalled h)
