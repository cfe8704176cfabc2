-- What a turn of the report's loop has done: where there is more to read it has taken bytes, within the limit, and else none.
use Rattle.std.specs.Prelude.{◌≡◌, ℕ, ◌≤◌, ◌<◌}
use Rattle.terms.specs.Limits.{limit}
use Rattle.report.specs.declared.End.{End}
use Rattle.report.specs.declared.End.TheVariants.{More, Done, Failed, Refused}

abbrev pub Goes : End → ℕ → ℕ → Type 0
Goes More old new = (old < new) × (new ≤ limit)
Goes Done old new = new ≡ old
Goes Failed old new = new ≡ old
Goes (Refused r) old new = new ≡ old
