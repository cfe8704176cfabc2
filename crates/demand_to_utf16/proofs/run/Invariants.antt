-- `run` meets its contract: the pieces before the cut are fed.
use mathlib.Core.Path.{◌≡◌}
use mathlib.Core.List.{[]}
use lib.ListN.{length}
use Rattle.decoder_to_utf16.specs.State.{to_units}
use Rattle.demand_feeding.proofs.CutByCut.{Cutting}
use Rattle.demand_to_utf16.specs.Inside.Feeding.{held}
use Rattle.demand_to_utf16.proofs.run.Given as goal

abbrev pub invariant-loop-cut : goal.invariant-loop-cut
invariant-loop-cut l = Cutting to_units l.initial.gone.state.room l.initial.list l.text l.initial.out [] l.cuts (held l.gone l.out l.list) l.cut-index × (length l.out ≡ length l.initial.out) × (length l.list ≡ length l.initial.list)
