-- `feeds::try_places` meets its contract: the bytes settle something, so that there is a need.
use mathlib.Core.Path.{sym, ap, ◌∙◌}
use Prim.Native.Nat.{◌+◌}
use mathlib.Core.List.{◌++◌}
use lib.ListN.{length}
use native.Mathlib.Omega.{arith}
use Rattle.terms.specs.Limits.{most_pending}
use Rattle.demand_pieces.proofs.RefusedUnchanged.{due-some, places-refused}
use Rattle.demand_pieces.proofs.feeds.try_places.Goals as goal

pub is_refused-requires : goal.is_refused-requires
is_refused-requires c =
    let a = c.args in (
      omega arith,
      places-refused a.state c.requires a.list.now ∙ sym c.due-number.ensures,
      rw c.due-number.ensures (due-some a.state c.requires (most_pending + 1) (length a.list.now)),
    )

pub returns : goal.returns
returns c =
    let a = c.args in
    let k = c.is_refused.ensures in
    record { yes = k.yes; output = ap (λ l. l ++ a.out.now) k.output; entries = k.entries }
