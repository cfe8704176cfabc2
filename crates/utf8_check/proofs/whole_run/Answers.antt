-- `whole_run` meets its contract: what stands well is whole segments, but for the bytes that wait for more.
use mathlib.Core.Path.{◌≡◌, ap, ◌∙◌}
use native.Mathlib.Omega.{arith}
use Rattle.utf8_scan.specs.Stands.{standing, waiting_at}
use Rattle.utf8_check.proofs.StandingIsWhole.{waits-within, end_is}
use Rattle.utf8_check.proofs.whole_run.Goals.{After-waiting}
use Rattle.utf8_check.proofs.whole_run.Goals as goal

-- what waits, at the end of what stands well
waits : (c : After-waiting)
    → let text = c.args.text.now in
    c.waiting.result ≡ waiting_at text (standing text)
waits c = c.waiting.ensures ∙ ap (waiting_at c.args.text.now) c.standing-n.ensures

pub overflow_sub-result : goal.overflow_sub-result
overflow_sub-result c = omega (arith, waits c, c.standing-n.ensures, waits-within c.args.text.now)

pub returns : goal.returns
returns c = rw (waits c, c.standing-n.ensures) (end_is c.args.text.now)
