-- `search` meets its contract: no place that it has passed has a match.
use Rattle.find.proofs.SearchWalks.{Walked}
use Rattle.find.proofs.plain.search.Given as goal

abbrev pub invariant-loop-place : goal.invariant-loop-place
invariant-loop-place l = Walked l.entry l.needle l.place 0
