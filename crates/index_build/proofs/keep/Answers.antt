-- `keep` meets its contract: what is left is held.
use Rattle.index_build.proofs.keep.Goals as goal

pub returns : goal.returns
returns c = rw c.hold-held.ensures
