-- The array of the code has the table's entries.
use mathlib.Core.Path.{refl}
use Rattle.utf8.specs.Classes.{classes}
use Rattle.utf8.proofs.ClassesRead.{table, point-read-by-array}
use Rattle.utf8.proofs.point.Goals as goal

pub returns : goal.returns
unfolding classes table
returns c = point-read-by-array _ c.args.text.now c.point_by.ensures refl
