-- `audit` meets its contract: from the checkpoint that it has come to, what is left to compare decides.
use Rattle.index_audit.proofs.CheckpointByCheckpoint.{Audited}
use Rattle.index_audit.proofs.audit.Given as goal

abbrev pub invariant-loop-k : goal.invariant-loop-k
invariant-loop-k l = Audited l.text l.row l.k l.p
