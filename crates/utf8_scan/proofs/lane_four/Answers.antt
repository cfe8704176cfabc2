-- `lane_four` meets its contract, from what each part of the test says.
use Rattle.std.proofs.Common.{rules}
use native.Mathlib.Omega.{arith}
use Rattle.utf8_scan.proofs.LaneTests.{stands_is, bounds_is, or_left, or_right, or_small, large_left, large_right}
use lib.Bits.{bit_or}
use Rattle.utf8_scan.proofs.lane_four.Goals as goal

pub returns : goal.returns
returns c =
    λ h.
    let a = c.args in
    let m₁ = c.saturating_sub in
    let m₂ = c.saturating_sub-2 in
    let m₃ = c.saturating_sub-3 in
    let m₁₂ = bit_or m₁.result m₂.result in
    let asked = c.asked in
    let over = c.overlong in
    let past = c.saturating_sub-4 in
    let edge = c.edge in
    let x₁ = bit_or asked.result over.result in
    let x₂ = bit_or x₁ past.result in
    let x₃ = bit_or x₂ edge.result in
    let p₃ = or_left x₃ c.edge-2.result h in
    let p₂ = or_left x₂ edge.result p₃ in
    let p₁ = or_left x₁ past.result p₂ in
    stands_is a.b3 a.b2 a.b1 a.b0 (bit_or m₁₂ m₃.result)
    (asked.ensures (or_left asked.result over.result p₁))
    (λ g. large_left m₁₂ m₃.result (large_left m₁.result m₂.result (omega (arith, m₁.ensures))))
    (λ g. large_left m₁₂ m₃.result (large_right m₁.result m₂.result (omega (arith, m₂.ensures))))
    (λ g. large_right m₁₂ m₃.result (omega (arith, m₃.ensures)))
    (λ x y z. or_small m₁₂ m₃.result (or_small m₁.result m₂.result (omega (arith, m₁.ensures)) (omega (arith, m₂.ensures))) (omega (arith, m₃.ensures)))
    (over.ensures (or_right asked.result over.result p₁))
    (omega (arith, past.ensures, or_right x₁ past.result p₂))
    (λ l. bounds_is 0xE0 0xED 0xA0 a.b1 a.b0 c.contains.result (search rules) (λ z. omega arith) l
    (edge.ensures (or_right x₂ edge.result p₃)))
    (λ l. bounds_is 0xF0 0xF4 0x90 a.b1 a.b0 c.contains-2.result (search rules) (λ z. omega arith) l
    (c.edge-2.ensures (or_right x₃ c.edge-2.result h)))
