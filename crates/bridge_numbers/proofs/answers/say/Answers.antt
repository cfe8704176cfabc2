-- 0 stands behind the numbers.
use native.Mathlib.Omega.{arith}
use Rattle.bridge_numbers.proofs.ZerosBehind.{said-whole}
use Rattle.bridge_numbers.proofs.answers.say.Goals as goal

pub returns : goal.returns
returns g c = said-whole c.args.numbers c.copy_from_slice.new.self g.row.N (omega arith) c.requires c.copy_from_slice.ensures.after
