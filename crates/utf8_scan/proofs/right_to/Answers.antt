-- `right_to` meets its contract: each byte so far stands well that is before the least place found.
use native.Mathlib.Omega.{arith}
use mathlib.Core.Path.{◌≡◌}
use mathlib.Core.Bool.{true}
use Rattle.utf8_scan.specs.Stands.{stands}
use Rattle.utf8_scan.proofs.StandMore.{stand_to_more}
use Rattle.utf8_scan.proofs.WindowWalk.{ahead_same, ahead-next, ahead-end}
use Rattle.utf8_scan.proofs.right_to.Goals as goal

pub loop-k-preserved : goal.loop-k-preserved
loop-k-preserved c =
    let t = c.args.t.now in
    let i = c.loop-k.k-iterator.count in
    let s = c.loop-k.k-iterator.iter.parts in
    let u = c.next.new.self.iter.parts in
    let a = c.loop-k.invariant.0 in
    let w = c.in-Some.field-0-1 in
    let n = c.in-Some.ensures.steps in
    rw n.2 (
      ahead-next t i s u a w n.0,
      omega (arith, c.min-m.ensures, c.loop-k.invariant.1),
      stand_to_more t i c.loop-k.m c.min-m.result c.loop-k.invariant.2 (omega (arith, c.min-m.ensures))
          (λ h. ahead_same t i s u a w n.0 (λ b3 b2 b1 b0. stands b3 b2 b1 b0 ≡ true)
          (c.lane_four.ensures (c.place.ensures (omega (arith, n.1, c.min-m.ensures, h))))),
    )

pub returns : goal.returns
returns c =
    let t = c.args.t.now in
    let i = c.loop-k.k-iterator.count in
    let end = ahead-end t i c.loop-k.k-iterator.iter.parts _ c.loop-k.invariant.0 c.in-None.ensures.steps.0 in
    (c.loop-k.invariant.1, λ j h. c.loop-k.invariant.2 j (omega (arith, end, c.loop-k.invariant.1)) h)
