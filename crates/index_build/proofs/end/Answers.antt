-- `end` meets its contract: checkpoint 0 is written, and what is pending is one segment.
use Prim.Native.Nat.{◌≤◌}
use mathlib.Core.Path.{◌≡◌, sym, ap, ◌∙◌}
use lib.ListN.{length}
use lib.Seq.{length-sets, length-take-le}
use native.Mathlib.Omega.{arith}
use Rattle.terms.specs.Limits.{most_pending}
use Rattle.index_build.proofs.TestsAsFacts.{Sound, sound_is}
use Rattle.index_build.proofs.SeamAndPending.{end_none, end-ahead, end-some}
use Rattle.index_build.proofs.end.Goals.{Start}
use Rattle.index_build.proofs.end.Goals as goal

-- an array has its length
three : (c : Start) → length c.args.state.held ≡ most_pending
three c = c.well_formed.0.1.1.0.1.0.1

passes : (c : Start) → Sound c.args.state
passes c = sound_is c.args.state c.requires.tests

pub returns-then-n-eq0 : goal.returns-then-n-eq0
returns-then-n-eq0 c =
    c.mark_start.ensures ∙ end_none c.args.state c.args.row.now (passes (goal.at.returns-then-n-eq0 c).Start) (three (goal.at.returns-then-n-eq0 c).Start) c.if-n-eq0.true

-- the pending bytes are in their places
inside : (c : Start) → c.args.state.pending ≤ length c.args.state.held
inside c = omega (arith, three c, (passes c).tail.few)

pub slice_bounds-held-end : goal.slice_bounds-held-end
slice_bounds-held-end c = inside (goal.at.slice_bounds-held-end c).Start

pub slice_bounds-end_first-end : goal.slice_bounds-end_first-end
slice_bounds-end_first-end c =
    sym (length-take-le c.args.state.pending c.args.state.held (inside (goal.at.slice_bounds-end_first-end c).Start))

pub settled_place-requires : goal.settled_place-requires
settled_place-requires c = (passes (goal.at.settled_place-requires c).Start).covers

pub advance-requires : goal.advance-requires
advance-requires c =
    rw c.settled_place.ensures
    (end-ahead c.args.state c.args.row.now (passes (goal.at.advance-requires c).Start) (three (goal.at.advance-requires c).Start) c.if-n-eq0.false _
    (ap length c.mark_start.ensures ∙ simp length-sets) c.requires c.end_first-ends.ensures)

pub returns : goal.returns
returns c =
    end-some c.args.state c.args.row.now (passes (goal.at.returns c).Start) (three (goal.at.returns c).Start) c.if-n-eq0.false
    c.mark_start.ensures c.end_first-ends.ensures (rw c.settled_place.ensures at c.advance.ensures)
