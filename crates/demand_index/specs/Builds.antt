-- An index that is built in pieces: the calls of the builder one after another, by what they promise.
use Rattle.std.specs.Prelude.{ℕ, ◌-◌, Bool, true, false, cond, List, [], ◌∷◌, ◌++◌, length, take, drop, ltb}
use Rattle.theory.specs.Course.{Calls, course}
use Rattle.terms.specs.Told.{if_granted}
use Rattle.index_build.specs.State.{build_says}
use Rattle.index_build.specs.declared.state.Builder.{Builder}
use Rattle.index_build.specs.Building.{ended}
use Rattle.index_build.specs.Course.{Caller, feed_of}
use Rattle.index_build.specs.Course as calls
use Rattle.demand_shared.specs.Cuts.{bring}

-- what the caller has: the builder's state and the row, and how many bytes of the text were taken
pub record Cutter : Type 0 where
  pub caller : Caller
  pub from : ℕ

abbrev pub cutter : Builder → List ℕ → ℕ → Cutter
cutter b row from = record { caller = record { state = b; row = row }; from = from }

abbrev pub starting : List ℕ → Cutter
starting row = record { caller = calls.starting row; from = 0 }

module _ (text : List ℕ) where
  -- a cut position, any number, is brought into what is left of the text; the piece ends there
  abbrev pub end_of : Cutter → ℕ → ℕ
  end_of h cut = bring cut h.from (length text)

  abbrev pub piece_of : Cutter → ℕ → List ℕ
  piece_of h cut = take (end_of h cut - h.from) (drop h.from text)

  -- A FEED of this piece: where it is refused, the next piece begins where this one does
  abbrev pub feed_to : Calls Cutter ℕ
  feed_to = record {
    grants = λ h cut. feed_of.grants h.caller (piece_of h cut);
    piece = piece_of;
    goes = λ h cut. record { caller = feed_of.goes h.caller (piece_of h cut); from = end_of h cut };
  }

-- THE COURSE OF SUCH CALLS from the fresh state: a piece to each cut position, and the rest
abbrev pub fed_to : List ℕ → List ℕ → List ℕ → Cutter
fed_to text cuts row = (course (feed_to text) (starting row) (cuts ++ length text ∷ [])).caller

-- whether the index was built, and the row then
pub record Build : Type 0 where
  pub done : Bool
  pub row : List ℕ

abbrev pub stopped : List ℕ → Build
stopped row = record { done = false; row = row }

abbrev pub finished : Builder → List ℕ → Build
finished b row = if_granted (build_says b 0 (length row)) (record { done = true; row = (ended b row).row }) (stopped row)

-- A BUILD OF A TEXT IN THE PIECES that cut positions make of it: finished where all of it was taken
abbrev pub built : List ℕ → List ℕ → List ℕ → Build
built text cuts row =
    let h = fed_to text cuts row in
    cond (ltb h.from (length text)) (stopped h.caller.row) (finished h.caller.state h.caller.row)
