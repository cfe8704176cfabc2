-- `lane_two` meets its contract: below 0xE0 two parts of the test are enough.
use native.Mathlib.Omega.{arith}
use Rattle.utf8_scan.proofs.LaneTests.{stands_is, bounds_none, or_left, or_right}
use Rattle.utf8_scan.proofs.lane_two.Goals as goal

pub returns : goal.returns
returns c =
    λ h l b3 b2 l2 l3.
    let a = c.args in
    let e = c.saturating_sub.ensures in
    stands_is b3 b2 a.b1 a.b0 c.saturating_sub.result
    (c.asked.ensures (or_left c.asked.result c.overlong.result h))
    (λ g. omega (arith, e))
    (λ g. absurd (omega arith))
    (λ g. absurd (omega arith))
    (λ x y z. omega (arith, e))
    (c.overlong.ensures (or_right c.asked.result c.overlong.result h))
    (omega arith)
    (λ w. bounds_none 0xE0 0xED 0xA0 a.b1 a.b0 l (omega arith))
    (λ w. bounds_none 0xF0 0xF4 0x90 a.b1 a.b0 (omega arith) (omega arith))
