-- `block_ends` meets its contract: the two behind each are parts of the row.
use Rattle.terms.proofs.WalkBySegments.{part_is}
use Rattle.utf8_count.proofs.lines.block_ends.Goals as goal

pub short_first-requires : goal.short_first-requires
short_first-requires c =
    let row = c.args.row.now in
    (c.told-row, rw c.told-row at (part_is row 1), rw c.told-row at (part_is row 2))
