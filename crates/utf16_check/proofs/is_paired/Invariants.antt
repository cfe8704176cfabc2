-- As long as the answer is yes, the units passed are in pairs.
use Rattle.std.proofs.Common.{◌≡◌, true}
use Rattle.utf16_check.specs.Inside.Paired.{Paired}
use Rattle.utf16_check.proofs.is_paired.Given as goal

abbrev pub invariant-loop-k : goal.invariant-loop-k
invariant-loop-k l = l.paired ≡ true → Paired l.text l.k
