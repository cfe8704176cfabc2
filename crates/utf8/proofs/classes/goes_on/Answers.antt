-- Both tests together are what is wanted.
use Rattle.utf8.proofs.classes.goes_on.Goals as goal

pub returns : goal.returns
returns c = rw c.later.ensures c.barred.ensures
