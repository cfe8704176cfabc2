-- `Repair::act` meets its contract: by what stands first.
use mathlib.Core.Path.{◌≡◌, sym, ap, ◌∙◌}
use lib.ListN.{length, take}
use lib.Seq.{length-take-le}
use native.Mathlib.Omega.{arith}
use Rattle.terms.specs.Told.{number_of}
use Rattle.terms.specs.declared.First.TheVariants.{Damage}
use Rattle.utf8_pending.specs.Tail.{settled_size}
use Rattle.decoder.specs.Inside.Acting.{places, Stands, Work, work, log_of, reached}
use Rattle.decoder.proofs.SettledByReader.{whole-inside}
use Rattle.decoder.proofs.SegmentsAct.{acted-none, passed-acts, mended-acts}
use Rattle.decoder.proofs.repair.Repair.act.Goals.{In-Whole}
use Rattle.decoder.proofs.repair.Repair.act.Goals as goal

-- a whole segment lies in the text
long : (c : In-Whole)
    → let n = c.in-Whole.n in
    length (take n c.args.text.now) ≡ n
long c =
    let n = c.in-Whole.n in
    length-take-le n c.args.text.now (whole-inside n c.args.text.now (rw c.in-Whole.is at c.requires.0))

pub slice_bounds-pass-end : goal.slice_bounds-pass-end
slice_bounds-pass-end c = sym (long c)

pub pass-requires : goal.pass-requires
pass-requires c =
    let e = c.in-Whole.is in
    let f = c.requires.1 in
    (omega (arith, f.enough, long (goal.at.pass-requires c).In-Whole, ap places e), omega (arith, f.sums, long (goal.at.pass-requires c).In-Whole, ap settled_size e))

pub mend-requires : goal.mend-requires
mend-requires c =
    rw c.in-Damage.is at c.requires.1

pub returns-in-Nothing : goal.returns-in-Nothing
returns-in-Nothing c =
    let a = c.args in
    rw c.in-Nothing.is (acted-none a.room (work a.self a.out.now a.list.now) (omega (arith, c.requires.1.enough)))

pub returns-in-Whole : goal.returns-in-Whole
returns-in-Whole c =
    let a = c.args in
    let w : Work = work a.self a.out.now a.list.now in
    rw c.in-Whole.is
    (c.pass.ensures a.list.now ∙ ap (reached a.out.now) (passed-acts a.room (take c.in-Whole.n a.text.now) (log_of w)))

pub returns-in-Damage : goal.returns-in-Damage
returns-in-Damage c =
    let a = c.args in
    let n = c.in-Damage.n in
    let why = c.in-Damage.cause in
    let w : Work = work a.self a.out.now a.list.now in
    let k : Stands (Damage n why) a.text.now = rw c.in-Damage.is at c.requires.0 in
    rw c.in-Damage.is
    (c.mend.ensures ∙ ap (reached a.out.now) (mended-acts a.room n (number_of why) (take n a.text.now) k.bytes-are k.places_are (log_of w)))

pub returns-in-Begun : goal.returns-in-Begun
returns-in-Begun c =
    let a = c.args in
    rw c.in-Begun.is (acted-none a.room (work a.self a.out.now a.list.now) (omega (arith, c.requires.1.enough)))
