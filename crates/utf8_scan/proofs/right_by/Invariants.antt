-- `right_by` meets its contract: while the bits together are below 0x80, each byte so far stands well.
use Prim.Native.Nat.{◌<◌}
use lib.ListN.{length}
use Rattle.std.specs.Slice.ArrayWindows.{array_windows_parts}
use Rattle.utf8_scan.specs.Inside.Blocks.{Stand}
use Rattle.utf8_scan.proofs.WindowWalk.{Ahead}
use Rattle.utf8_scan.proofs.right_by.Given as goal

abbrev pub invariant-loop-b3 : goal.invariant-loop-b3
invariant-loop-b3 g l =
    let i = length l.yielded in
    Ahead l.t (array_windows_parts l.b3-iterator) i × (l.e < 0x80 → Stand l.t i)
