-- As long as the answer is yes, the units passed are in pairs.
use Rattle.std.proofs.Common.{◌∙◌, sym}
use Rattle.theory.proofs.Cases.{both}
use Rattle.utf16_check.proofs.PairedIsWhole.{paired_next, same_test}
use Rattle.utf16_check.proofs.is_paired.Goals as goal

pub loop-k-preserved : goal.loop-k-preserved
loop-k-preserved c =
    let t = c.args.text.now in
    let k = c.loop-k.k in
    λ e.
    let b = both c.loop-k.paired _ e in
    paired_next t k (c.loop-k.invariant b.0) (sym c.is_first.ensures ∙ same_test c.is_first.result c.is_second.result b.1 ∙ c.is_second.ensures)
