-- `slow` meets its contract: the line ends of the bytes passed, and there are none behind the end.
use mathlib.Core.Path.{◌≡◌}
use Rattle.utf8_count.specs.Counts.{ends_in}
use Rattle.utf8_count.proofs.lines.slow.Given as goal

abbrev pub invariant-loop-at : goal.invariant-loop-at
invariant-loop-at l = l.ends ≡ ends_in l.at l.text
