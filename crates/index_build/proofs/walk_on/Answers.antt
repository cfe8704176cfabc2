-- `walk_on` meets its contract: the table reads what the paper's rows say.
use Rattle.utf8.specs.Classes.{classes}
use Rattle.utf8.proofs.ClassesRead.{table, by-table}
use Rattle.index_build.proofs.walk_on.Goals as goal

pub walk_by-requires : goal.walk_by-requires
unfolding classes table
walk_by-requires c = record { walks = c.requires; classes_value = by-table }

pub returns : goal.returns
returns c = c.walk_by.ensures
