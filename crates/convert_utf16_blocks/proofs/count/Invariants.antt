-- The places of the units passed.
use Rattle.std.proofs.Common.{◌≡◌, ◌*◌, ◌≤◌, length, take}
use Rattle.convert_utf16_blocks.specs.Block.{bytes_of}
use Rattle.convert_utf16_blocks.proofs.count.Given as goal

abbrev pub invariant-loop-x : goal.invariant-loop-x
invariant-loop-x l = (l.places ≤ 3 * l.x-index) × (l.places ≡ length (bytes_of (take l.x-index l.units)))
