-- `audit` meets its contract: from the checkpoint that it has come to, what is left to compare decides.
use mathlib.Core.Path.{◌≡◌, sym, ◌∙◌}
use Prim.Native.Nat.{◌*◌, ◌<◌}
use lib.ListN.{length}
use native.Mathlib.Numerals.{add-one}
use native.Mathlib.Omega.{arith}
use Rattle.theory.specs.Place.{mark}
use Rattle.theory.specs.Index.{marks}
use Rattle.place.specs.Measures.{ruler, reader}
use Rattle.place.specs.Lookup.{four_counts}
use Rattle.index_checkpoint.specs.Checkpoints.{spacing, checkpoint}
use Rattle.index_audit.specs.Audits.{same}
use Rattle.index_audit.proofs.ComparedByNumbers.{same-places}
use Rattle.index_audit.proofs.CheckpointByCheckpoint.{audit-over, audit-short, audited-start, audited-in, audited-end}
use Rattle.index_audit.proofs.CheckpointByCheckpoint.{audited-found, audited-refused, audited-no, audited-next}
use borrow.Author.Rules.{rules}
use Rattle.index_audit.proofs.audit.Goals.{In-Ok, In-loop-k, After-eq}
use Rattle.index_audit.proofs.audit.Goals as goal

pub returns-then-text-gt-LIMIT : goal.returns-then-text-gt-LIMIT
returns-then-text-gt-LIMIT c = let a = c.args in audit-over a.text.now a.row.now c.if-text-gt-LIMIT.true

pub returns-then-row-needed : goal.returns-then-row-needed
returns-then-row-needed c =
    let a = c.args in
    audit-short a.text.now a.row.now c.if-text-gt-LIMIT.false (rw (← c.needed.ensures) c.if-row-needed.true)

pub loop-k-init : goal.loop-k-init
loop-k-init c =
    let a = c.args in
    rw c.start-p.ensures (audited-start a.text.now a.row.now c.if-text-gt-LIMIT.false (rw (← c.needed.ensures) c.if-row-needed.false))

pub slice_bounds-last-count : goal.slice_bounds-last-count
slice_bounds-last-count c = audited-in c.loop-k.invariant

pub slice_bounds-last-start : goal.slice_bounds-last-start
slice_bounds-last-start c = let i = audited-in c.loop-k.invariant in search rules

-- there is a checkpoint left
more : (c : In-loop-k)
    → c.loop-k.k < marks spacing (length c.args.text.now)
more c = rw (← c.marks-n.ensures) c.loop-k-test.true

pub overflow_mul-k : goal.overflow_mul-k
overflow_mul-k c = omega (arith, more (goal.at.overflow_mul-k c).In-loop-k, c.loop-k.invariant.within)

-- the last place at or before the checkpoint's byte
found : (c : In-Ok)
    → c.in-Ok.q ≡ mark reader ruler (spacing * c.loop-k.k) c.args.text.now
found c =
    audited-found c.loop-k.invariant c.last.result c.last.ensures c.in-Ok.q c.in-Ok.is

-- whether the index has its counts
compared : (c : After-eq)
    → c.eq.result ≡ same (four_counts (checkpoint c.args.row.now c.loop-k.k)) (four_counts c.in-Ok.q)
compared c =
    c.eq.ensures ∙ same-places c.checkpoint.result c.in-Ok.q ∙ rw c.checkpoint.ensures

pub returns-in_default : goal.returns-in_default
returns-in_default c =
    let at = goal.at.returns-in_default c in
    audited-no c.loop-k.invariant (more at.In-loop-k) _ (found at.In-Ok) (sym (compared at.After-eq) ∙ c.if-eq.false)

pub returns-in_default-2 : goal.returns-in_default-2
returns-in_default-2 c =
    absurd (audited-refused c.loop-k.invariant c.last.result c.last.ensures c.in_default.field-0 c.in_default.is)

pub loop-k-preserved : goal.loop-k-preserved
loop-k-preserved c =
    let at = goal.at.loop-k-preserved c in
    rw (add-one c.loop-k.k) (audited-next c.loop-k.invariant (more at.In-loop-k) _ (found at.In-Ok) (sym (compared at.After-eq) ∙ c.if-eq.true))

pub returns : goal.returns
returns c = audited-end c.loop-k.invariant (rw (← c.marks-n.ensures) c.loop-k-test.false)
