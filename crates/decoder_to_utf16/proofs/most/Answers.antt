-- No more than the limit counts.
use Rattle.utf16.specs.Scalar.{utf16}
use Rattle.decoder_shared.proofs.Enough.{most-is}
use Rattle.decoder_to_utf16.proofs.most.Goals as goal

pub returns : goal.returns
returns c = rw c.min.ensures (most-is utf16 c.args.n)
