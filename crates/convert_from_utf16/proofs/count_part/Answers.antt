-- A block of units that stand alone is a pass, and so are the segments that are read where there is none.
use Rattle.convert_utf16_blocks.specs.Block.{block}
use Rattle.convert_utf16_blocks.proofs.LowUnits.{block-is}
use Rattle.convert_from_utf16.proofs.BlocksArePasses.{block-passes}
use Rattle.convert_from_utf16.proofs.count_part.Goals as goal

pub returns-in-Some : goal.returns-in-Some
returns-in-Some c =
    let t = c.args.text.now in
    let n = c.in-Some.ensures.told in
    block-passes t (block t) (block-is t).0 (block-is t).1 _ _ n.read_is n.places_is c.in-Some.ensures.some
