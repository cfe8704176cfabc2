-- `watch_all` meets its contract: the bytes before b were watched.
use mathlib.Core.Path.{◌≡◌}
use lib.ListN.{drop}
use Rattle.terms.specs.Limits.{fresh_of}
use Rattle.decoder_watch.specs.Watching.{counting}
use Rattle.demand_watch.specs.Watching.{watches}
use Rattle.demand_watch.proofs.watch_all.Given as goal

abbrev pub invariant-loop-b : goal.invariant-loop-b
invariant-loop-b l = watches (counting (fresh_of l.room)) l.text ≡ watches l.last (drop l.b-index l.text)
