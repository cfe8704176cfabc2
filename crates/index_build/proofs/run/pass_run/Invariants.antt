-- `run::pass_run` meets its contract: the run has been counted as far as a byte, and the checkpoints up to there are written.
use Prim.Native.Nat.{◌-◌}
use Rattle.index_build.specs.Inside.Runs.{Runs}
use Rattle.index_build.proofs.RunMarked.{Passed}
use Rattle.index_build.proofs.run.pass_run.Given as goal

abbrev pub invariant-loop-q : goal.invariant-loop-q
invariant-loop-q l = (r : Runs l.initial.q l.text l.run l.initial.row) → Passed l.text l.run l.initial.q l.initial.row r l.row l.q l.at

abbrev pub decreases-loop-q : goal.decreases-loop-q
decreases-loop-q l = l.run - l.at
