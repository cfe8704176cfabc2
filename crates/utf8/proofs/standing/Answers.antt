-- The array of the code has the table's entries.
use mathlib.Core.Path.{refl}
use Rattle.utf8.specs.Classes.{classes}
use Rattle.utf8.proofs.ClassesRead.{table, first-by-array}
use Rattle.utf8.proofs.standing.Goals as goal

pub returns : goal.returns
unfolding classes table
returns c = first-by-array _ c.args.text.now c.segment_by.ensures refl
