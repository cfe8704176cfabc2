-- `repair::put_mark` meets its contract: three stores at the start.
use lib.ListN.{length-set}
use native.Mathlib.Omega.{arith}
use Rattle.theory.proofs.Rows.{sets-start}
use Rattle.terms.specs.Form.{replacement}
use Rattle.utf8.specs.Scalar.{utf8}
use Rattle.decoder.proofs.repair.put_mark.Goals as goal

pub bounds-out-1 : goal.bounds-out-1
bounds-out-1 c = simp length-set (omega (arith, c.requires))

pub returns : goal.returns
returns c = sets-start c.args.out.now (utf8.write replacement) c.requires
