-- `feeds::run_pieces` meets its contract: the pieces before the cut are fed.
use mathlib.Core.Path.{◌≡◌}
use mathlib.Core.List.{[], ◌∷◌}
use lib.ListN.{length}
use Rattle.decoder.specs.State.{byte_decoding}
use Rattle.demand_feeding.proofs.CutByCut.{Cutting}
use Rattle.demand_pieces.specs.Inside.Feeding.{held}
use Rattle.demand_pieces.proofs.feeds.run_pieces.Given as goal

abbrev pub invariant-loop-cut : goal.invariant-loop-cut
invariant-loop-cut l = Cutting byte_decoding l.initial.gone.state.room l.initial.list l.text l.initial.out (l.scant ∷ []) l.cuts (held l.gone l.out l.list) l.cut-index × (length l.out ≡ length l.initial.out) × (length l.list ≡ length l.initial.list)
