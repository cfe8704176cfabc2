-- `stretch` meets its contract: the stream behind the text is that behind the rest, from the place reached.
use mathlib.Core.Path.{◌≡◌}
use Rattle.index_build.specs.Inside.Steps.{Walked}
use Rattle.index_build.proofs.stretch.Given as goal

-- each turn passes some
abbrev pub invariant-loop-k : goal.invariant-loop-k
invariant-loop-k l = Walked l.text l.initial.p l.initial.row l.row l.p l.at × (l.at ≡ 0 → l.k ≡ 0)
