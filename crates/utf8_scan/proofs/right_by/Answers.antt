-- `right_by` meets its contract: while the bits together are below 0x80, each byte so far stands well.
use native.Mathlib.Omega.{arith}
use lib.ListN.{length}
use Rattle.std.proofs.lemmas.List.{length_push}
use Rattle.utf8_scan.proofs.StandMore.{stand-more}
use Rattle.utf8_scan.proofs.WindowWalk.{ahead-inside, ahead_same, ahead-next}
use Rattle.utf8_scan.proofs.right_by.Goals as goal

pub loop-b3-preserved : goal.loop-b3-preserved
loop-b3-preserved g c =
    let t = c.args.t.now in
    let i = length c.loop-b3.yielded in
    let s = c.loop-b3.b3-iterator.parts in
    let u = c.next.new.self.parts in
    let a = c.loop-b3.invariant.0 in
    let w = c.in-Some.field-0 in
    let n = c.in-Some.ensures.steps in
    let e = c.lane-e.result in
    let inside = ahead-inside t i s u a w n in
    rw (length_push c.loop-b3.yielded w) (
      ahead-next t i s u a w n,
      stand-more t i c.loop-b3.e e c.loop-b3.invariant.1
          (c.requires.sound i (omega arith) e (ahead_same t i s u a w n (λ b3 b2 b1 b0. g.F.Fn.post c.args.lane (b3, (b2, (b1, (b0, tt)))) e) c.lane-e.ensures)),
    )
