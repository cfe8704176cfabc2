-- `lane_three` meets its contract: below 0xF0 three parts of the test are enough.
use Rattle.std.proofs.Common.{rules}
use native.Mathlib.Omega.{arith}
use Rattle.utf8_scan.proofs.LaneTests.{stands_is, bounds_is, bounds_none, or_left, or_right, or_small, large_left, large_right}
use lib.Bits.{bit_or}
use Rattle.utf8_scan.proofs.lane_three.Goals as goal

pub returns : goal.returns
returns c =
    λ h l₁ l₂ b3 l₃.
    let a = c.args in
    let m₁ = c.saturating_sub in
    let m₂ = c.saturating_sub-2 in
    let asked = c.asked in
    let over = c.overlong in
    let p = or_left (bit_or asked.result over.result) c.edge.result h in
    stands_is b3 a.b2 a.b1 a.b0 (bit_or m₁.result m₂.result)
    (asked.ensures (or_left asked.result over.result p))
    (λ g. large_left m₁.result m₂.result (omega (arith, m₁.ensures)))
    (λ g. large_right m₁.result m₂.result (omega (arith, m₂.ensures)))
    (λ g. absurd (omega arith))
    (λ x y z. or_small m₁.result m₂.result (omega (arith, m₁.ensures)) (omega (arith, m₂.ensures)))
    (over.ensures (or_right asked.result over.result p))
    (omega arith)
    (λ l. bounds_is 0xE0 0xED 0xA0 a.b1 a.b0 c.contains.result (search rules) (λ z. omega arith) l
    (c.edge.ensures (or_right (bit_or asked.result over.result) c.edge.result h)))
    (λ w. bounds_none 0xF0 0xF4 0x90 a.b1 a.b0 l₁ (omega arith))
