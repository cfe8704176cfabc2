-- `feeds::try_list` meets its contract: the copy passes its tests, and no list is long enough for none.
use mathlib.Core.Path.{ap}
use mathlib.Core.List.{◌++◌}
use native.Mathlib.Omega.{arith}
use Rattle.demand_pieces.proofs.RefusedUnchanged.{list-refused}
use Rattle.demand_pieces.proofs.feeds.try_list.Goals as goal

pub is_refused-requires : goal.is_refused-requires
is_refused-requires c =
    (omega arith, list-refused c.args.state c.requires c.args.out.now, omega arith)

pub returns : goal.returns
returns c =
    let a = c.args in
    let k = c.is_refused.ensures in
    record { yes = k.yes; output = k.output; entries = ap (λ l. l ++ a.list.now) k.entries }
