-- Each turn that goes on has taken more, and the limit ends it.
use Rattle.std.proofs.Common.{suc, ◌-◌}
use Rattle.terms.specs.Limits.{limit}
use Rattle.report.proofs.take_input.Given as goal

abbrev pub decreases-loop-state : goal.decreases-loop-state
decreases-loop-state g l = suc limit - l.state.taken
