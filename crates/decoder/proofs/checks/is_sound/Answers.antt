-- `checks::is_sound` meets its contract: the pending bytes, and then the numbers.
use mathlib.Core.Path.{sym, ◌∙◌}
use Rattle.decoder.proofs.TestsAsFacts.{sound-not, sound-rest}
use Rattle.decoder.proofs.checks.is_sound.Goals as goal

pub returns-then-not-is_tail : goal.returns-then-not-is_tail
returns-then-not-is_tail c = sound-not c.args.state (sym c.is_tail.ensures ∙ c.if-not-is_tail.true)

pub returns : goal.returns
returns c =
    c.is_balanced.ensures ∙ sound-rest c.args.state (sym c.is_tail.ensures ∙ c.if-not-is_tail.false)
