-- No more than the limit counts.
use Rattle.utf8.specs.Scalar.{utf8}
use Rattle.decoder_shared.proofs.Enough.{most-is}
use Rattle.decoder_from_utf16.proofs.most.Goals as goal

pub returns : goal.returns
returns c = rw c.min.ensures (most-is utf8 c.args.n)
