-- `Repair::mend` meets its contract: U+FFFD is put behind what is written, and the damage is entered.
use Rattle.terms.specs.Form.{replacement}
use Rattle.utf8.specs.Scalar.{utf8}
use native.Mathlib.Omega.{arith}
use Rattle.terms.specs.Told.{number_of}
use Rattle.decoder_shared.proofs.TallyPlain.{strike-plain}
use Rattle.decoder.proofs.SegmentsAct.{put-as, put-lent}
use Rattle.decoder.proofs.repair.Repair.mend.Goals as goal

pub put_mark-requires : goal.put_mark-requires
put_mark-requires c = put-lent c.args.out.now c.args.self.written 3 c.requires.enough

pub returns : goal.returns
returns c =
    let a = c.args in
    let t = a.self in
    put-as t a.out.now (utf8.write replacement) c.put_mark.new.out c.requires.enough c.put_mark.ensures c.strike.result c.strike.new.list _
    (strike-plain t.tally a.room a.list.now a.n (number_of a.cause)
    (record { row = c.requires.row; sums = omega (arith, c.requires.sums); counts = c.requires.counts }) c.strike.ensures)
