-- A text that one caller feeds in pieces: the calls one after another, by what they promise, and what they give together.
-- No contract cites these; the theorems about many calls do.
use Rattle.std.specs.Prelude.{ℕ, List}
use Rattle.theory.specs.Course as theory
use Rattle.terms.specs.declared.Decoder.{Decoder}
use Rattle.decoder_shared.specs.Course.{Call, Caller}
use Rattle.decoder_shared.specs.Course as course
use Rattle.decoder.specs.State.{byte_decoding}

-- THE COURSE OF SOME FEEDS from the fresh state, over a list that held `row`
abbrev pub fed_all : ℕ → List ℕ → List Call → theory.Course (Caller Decoder)
fed_all = course.fed_all byte_decoding

-- WHAT HOLDS AFTER EVERY CALL, each as defined from the text that was taken
abbrev pub Holds : ℕ → List ℕ → List ℕ → Caller Decoder → Type 0
Holds = course.Holds byte_decoding

-- THE SECOND DEMAND: a text that is fed in any pieces, with refused calls between them, and finished, gives the repaired form, the
-- first entries and the totals of the joined text, whatever the list held
abbrev pub FedAsWhole : Type 0
FedAsWhole = course.FedAsWhole byte_decoding
