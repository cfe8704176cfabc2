-- The fresh state is put.
use lib.ListN.{length}
use borrow.Author.Tests.{le-leb, lt-leb}
use Rattle.bridge_places.proofs.StateHandedOn.{unfreshened, freshened}
use Rattle.bridge_places.proofs.build.bridge_index_fresh.Goals as goal

pub returns-then-state-lt8 : goal.returns-then-state-lt8
returns-then-state-lt8 c = let a = c.args in unfreshened (lt-leb 8 (length a.state.now) c.if-state-lt8.true)

pub returns : goal.returns
returns c =
    let a = c.args in
    freshened (le-leb 8 (length a.state.now) c.if-state-lt8.false) c.fresh.ensures c.if-state-lt8.false c.keep_builder.ensures
