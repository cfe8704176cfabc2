-- The checks before a call: whether a state may take it.
use Rattle.std.specs.Prelude.{ℕ, List}
use Rattle.terms.specs.declared.Decoder.{Decoder}
use Rattle.decoder_shared.specs.Checks as checks
use Rattle.decoder.specs.State.{byte_decoding}

-- refusal 8, 2, 7 in this order; then what the call says
abbrev pub admitted : Decoder → ℕ → ℕ → List ℕ → List ℕ
admitted = checks.admitted byte_decoding

abbrev pub admit_says : Decoder → ℕ → ℕ → List ℕ
admit_says = checks.admit_says byte_decoding
