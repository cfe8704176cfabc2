-- The room that is enough: the most places that a feed of so many bytes can need.
use Rattle.std.specs.Prelude.{ℕ}
use Rattle.utf8.specs.Scalar.{utf8}
use Rattle.decoder_shared.specs.Room as shared

abbrev pub most_fed : ℕ → ℕ
most_fed = shared.most_fed utf8
