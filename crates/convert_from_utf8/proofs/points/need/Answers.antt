-- The bytes that are no later bytes are as many.
use Rattle.convert_from_utf8.proofs.SumsAreNeeds.{points-sums}
use Rattle.convert_from_utf8.proofs.points.need.Goals as goal

pub returns : goal.returns
returns c = rw c.count-s.ensures (points-sums c.args.text.now c.requires)
