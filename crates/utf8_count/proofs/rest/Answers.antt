-- `rest` meets its contract: the block is the text, filled up.
use mathlib.Core.Path.{◌∙◌}
use lib.ListN.{length}
use Rattle.utf8_count.proofs.CountsByBlocks.{filled-sums}
use Rattle.utf8_count.proofs.rest.Goals as goal

pub returns : goal.returns
returns c =
    (rw c.copy_from_slice.ensures.after at c.block.ensures) ∙ filled-sums c.args.text.now 128 (length c.args.text.now)
