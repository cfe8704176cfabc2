-- `onward` meets its contract: those passed stand well, and the others are tested one by one.
use Prim.Native.Nat.{◌+◌}
use mathlib.Core.Path.{◌≡◌}
use native.Mathlib.Omega.{arith}
use Rattle.utf8_scan.proofs.OnwardByBytes.{come_start}
use Rattle.utf8_scan.proofs.onward.Goals as goal

pub loop-i-init : goal.loop-i-init
loop-i-init c =
    let z : c.args.from + 0 ≡ c.args.from = omega arith in
    rw (z, c.byte_before-b3.ensures, c.byte_before-b2.ensures, c.byte_before-b1.ensures) (come_start c.args.text.now c.args.from c.requires)
