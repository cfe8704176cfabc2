-- A run is below 0x80, and within the text.
use Rattle.ascii.proofs.Leading.{run-few, run-ascii}
use Rattle.convert_from_utf8.proofs.spelling.expected_run.Goals as goal

pub returns-then-ascii : goal.returns-then-ascii
returns-then-ascii c = let text = c.args.text.now in rw c.run.ensures (run-few text, run-ascii text)
