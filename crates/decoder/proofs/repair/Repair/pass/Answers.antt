-- `Repair::pass` meets its contract: the run is copied behind what is written.
use Prim.Native.Nat.{◌≤◌}
use mathlib.Core.Path.{◌≡◌}
use mathlib.Core.List.{◌++◌}
use lib.ListN.{length, drop}
use native.Mathlib.Omega.{arith}
use Rattle.terms.proofs.WalkWrites.{lent}
use Rattle.copy.proofs.Copied.{copied_whole}
use Rattle.decoder_shared.proofs.TallyPlain.{pass-plain}
use Rattle.decoder.specs.Inside.Acting.{work}
use Rattle.decoder.proofs.SegmentsAct.{passed_none, put-as, put-lent}
use Rattle.decoder.proofs.repair.Repair.pass.Goals as goal

pub returns-then-run-eq0 : goal.returns-then-run-eq0
returns-then-run-eq0 c =
    let a = c.args in
    λ list. passed_none a.run.now c.if-run-eq0.true (work a.self a.out.now list) (omega (arith, c.requires.0))

pub returns : goal.returns
returns c =
    let a = c.args in
    let t = a.self in
    let n = length a.run.now in
    let ys = c.copy.new.out in
    let room : n ≤ length (lent a.out.now t.written) = put-lent a.out.now t.written n c.requires.0 in
    let e : ys ≡ a.run.now ++ drop n (lent a.out.now t.written) = copied_whole a.run.now (lent a.out.now t.written) ys room c.copy.ensures in
    λ list. put-as t a.out.now a.run.now ys c.requires.0 e c.pass.result list _ (pass-plain t.tally n c.requires.1 c.pass.ensures list)
