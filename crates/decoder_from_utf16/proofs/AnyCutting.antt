-- The cutting of a text of units does not matter, and the state always passes its tests.
use mathlib.Core.Path.{◌≡◌}
use Prim.Native.Nat.{ℕ, ◌≤◌}
use mathlib.Core.Bool.{true}
use mathlib.Core.List.{List, ◌++◌}
use lib.ListN.{get_or, take}
use Rattle.theory.specs.Stream.{join}
use Rattle.terms.specs.Form.{converted}
use Rattle.terms.specs.Limits.{most_room}
use Rattle.terms.specs.Told.{is_granted}
use Rattle.utf8.specs.Scalar.{utf8}
use Rattle.utf16.specs.Scalar.{utf16}
use Rattle.decoder_shared.specs.Calls.{Finishes}
use Rattle.decoder_shared.specs.Course.{Call, fed_all, Holds, FedAsWhole}
use Rattle.decoder_shared.proofs.AnyCutting as any
use Rattle.decoder_from_utf16.specs.State.{unit_decoding}
use Rattle.decoder_from_utf16.specs.declared.UnitDecoder.{UnitDecoder}
use Rattle.decoder_from_utf16.proofs.UnitsLawful.{units_lawful}

-- AFTER EVERY CALL the state is the one of the joined text, and passes its tests
pub course_holds : (room : ℕ) (row : List ℕ) → room ≤ most_room → (calls : List Call)
    → let r = fed_all unit_decoding room row calls in Holds unit_decoding room row (join r.pieces) r.caller
course_holds = any.course_holds unit_decoding units_lawful

-- AND AT THE END there are the first entries and the totals of the joined text, and what is written for it,
pub fed_as_whole : FedAsWhole unit_decoding
fed_as_whole = any.fed_as_whole unit_decoding units_lawful

-- which is the joined text as bytes
pub fed-converted : (room : ℕ) (row : List ℕ) (calls : List Call) (out out' list' said : List ℕ) (next : UnitDecoder)
    → let r = fed_all unit_decoding room row calls in
    Finishes unit_decoding r.caller.state out r.caller.list out' list' said next → is_granted said ≡ true
    → r.caller.written ++ take (get_or said 1 0) out' ≡ converted utf16 utf8 (join r.pieces)
fed-converted room row calls out out' list' said next h g = (fed_as_whole room row calls out out' list' said next h g).output
