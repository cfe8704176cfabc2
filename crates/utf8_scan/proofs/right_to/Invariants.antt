-- `right_to` meets its contract: each byte so far stands well that is before the least place found.
use Prim.Native.Nat.{◌+◌, ◌≤◌}
use lib.ListN.{length}
use Rattle.std.specs.Iterator.Adapters.{enumerate_source, enumerate_count}
use Rattle.std.specs.Slice.ArrayWindows.{array_windows_parts}
use Rattle.utf8_scan.proofs.StandMore.{StandTo}
use Rattle.utf8_scan.proofs.WindowWalk.{Ahead}
use Rattle.utf8_scan.proofs.right_to.Given as goal

abbrev pub invariant-loop-k : goal.invariant-loop-k
invariant-loop-k l =
    let i = enumerate_count l.k-iterator in
    Ahead l.t (array_windows_parts (enumerate_source l.k-iterator)) i × (l.m + 3 ≤ length l.t) × StandTo l.t i l.m
