-- The cutting of a text does not matter where it is written as units, and the state always passes its tests.
use mathlib.Core.Path.{◌≡◌}
use Prim.Native.Nat.{ℕ, ◌≤◌}
use mathlib.Core.Bool.{true}
use mathlib.Core.List.{List, ◌++◌}
use lib.ListN.{get_or, take}
use Rattle.theory.specs.Stream.{join}
use Rattle.terms.specs.Form.{converted}
use Rattle.terms.specs.Limits.{most_room}
use Rattle.terms.specs.Told.{is_granted}
use Rattle.terms.specs.declared.Decoder.{Decoder}
use Rattle.utf8.specs.Scalar.{utf8}
use Rattle.utf16.specs.Scalar.{utf16}
use Rattle.decoder.proofs.BytesLawful.{bytes_lawful}
use Rattle.decoder_shared.specs.Calls.{Finishes}
use Rattle.decoder_shared.specs.Course.{Call, fed_all, Holds, FedAsWhole}
use Rattle.decoder_shared.proofs.Lawful.{Lawful}
use Rattle.decoder_shared.proofs.AnyCutting as any
use Rattle.decoder_to_utf16.specs.State.{to_units}

-- it reads the byte decoder's texts and keeps its states
pub to_units_lawful : Lawful to_units
to_units_lawful = record {
  hold = bytes_lawful.hold;
  division = bytes_lawful.division;
  short = bytes_lawful.short;
  kept = bytes_lawful.kept;
  passes = bytes_lawful.passes;
}

-- AFTER EVERY CALL the state is the one of the joined text, and passes its tests
pub course_holds : (room : ℕ) (row : List ℕ) → room ≤ most_room → (calls : List Call)
    → let r = fed_all to_units room row calls in Holds to_units room row (join r.pieces) r.caller
course_holds = any.course_holds to_units to_units_lawful

-- AND AT THE END there are the first entries and the totals of the joined text, and what is written for it,
pub fed_as_whole : FedAsWhole to_units
fed_as_whole = any.fed_as_whole to_units to_units_lawful

-- which is the joined text as units
pub fed-converted : (room : ℕ) (row : List ℕ) (calls : List Call) (out out' list' said : List ℕ) (next : Decoder)
    → let r = fed_all to_units room row calls in
    Finishes to_units r.caller.state out r.caller.list out' list' said next → is_granted said ≡ true
    → r.caller.written ++ take (get_or said 1 0) out' ≡ converted utf8 utf16 (join r.pieces)
fed-converted room row calls out out' list' said next h g = (fed_as_whole room row calls out out' list' said next h g).output
