-- `onward` meets its contract: those passed stand well, and the others are tested one by one.
use Prim.Native.Nat.{◌+◌}
use Rattle.utf8_scan.proofs.OnwardByBytes.{Come}
use Rattle.utf8_scan.proofs.onward.Given as goal

abbrev pub invariant-loop-i : goal.invariant-loop-i
invariant-loop-i l = Come l.text l.b3 l.b2 l.b1 (l.from + l.i)
