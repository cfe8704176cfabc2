-- An empty text has nothing, and any other what stands there.
use Rattle.terms.proofs.WalkBySegments.{says_nothing}
use Rattle.utf8.specs.Bytes.{bytes}
use Rattle.utf8.proofs.segment.Goals as goal

pub returns-then-text-eq0 : goal.returns-then-text-eq0
returns-then-text-eq0 c = says_nothing bytes c.args.text.now c.if-text-eq0.true

pub returns : goal.returns
returns c = c.standing.ensures
