-- `standing` meets its contract: all of the text stands well, or it goes on from the bound.
use native.Mathlib.Omega.{arith}
use Rattle.utf8_scan.proofs.OnwardByBytes.{come_start, come-end}
use Rattle.utf8_scan.proofs.standing.Goals as goal

pub returns-then-from-text : goal.returns-then-from-text
returns-then-from-text c =
    come-end _ _ _ _ _ (come_start c.args.text.now c.sure-from.result c.sure-from.ensures) (omega arith)
