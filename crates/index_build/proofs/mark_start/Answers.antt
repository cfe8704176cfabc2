-- `mark_start` meets its contract: every count of the start is 0.
use mathlib.Core.Path.{◌∙◌}
use native.Mathlib.Omega.{arith}
use Rattle.place.specs.Measures.{place}
use Rattle.index_build.proofs.CheckpointPassed.{held-marked}
use Rattle.index_build.proofs.mark_start.Goals as goal

pub returns : goal.returns
returns c =
    (rw c.start.ensures at c.mark.ensures)
    ∙ held-marked (place 0 0 0 0) 0 c.args.row.now (record {
      fits = record { lines = omega arith; points = omega arith; units = omega arith; within = omega arith };
      room = c.requires;
    })
