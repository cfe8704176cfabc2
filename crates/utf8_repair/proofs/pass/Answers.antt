-- The bytes passed stand at the start.
use mathlib.Core.Path.{refl}
use Rattle.copy.proofs.Copied.{copied_whole}
use Rattle.utf8_repair.proofs.pass.Goals as goal

pub returns : goal.returns
returns c =
    let a = c.args in
    record { count = refl; output = copied_whole a.seg.now a.out.now c.copy.new.out c.requires c.copy.ensures }
