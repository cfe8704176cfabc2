-- The bytes that are left, and 0 behind them.
use Rattle.decoder.proofs.keep.Goals as goal

pub returns : goal.returns
returns c = rw c.hold-held.ensures
