-- `checks::admit` meets its contract: the checks of any decoder, of this state's tests and numbers.
use mathlib.Core.Path.{◌∙◌}
use Rattle.decoder.proofs.checks.admit.Goals as goal

pub returns : goal.returns
returns c = c.admit.ensures ∙ rw c.is_sound.ensures
