-- `take` meets its contract: checkpoint 0 is written, and the piece is taken behind the seam.
use Prim.Native.Nat.{◌≤◌}
use mathlib.Core.Path.{◌≡◌, sym, ap, ◌∙◌}
use lib.ListN.{length, take}
use lib.Seq.{length-take-le, length-sets}
use Rattle.terms.specs.Limits.{most_pending}
use Rattle.utf8_pending.specs.Tail.{four}
use Rattle.index_build.specs.State.{left}
use Rattle.index_build.proofs.SeamAndPending.{granted-row}
use Rattle.utf8_pending.proofs.HeldInPlaces.{seam_found}
use Rattle.index_build.proofs.take.Goals.{After-seam_of-seam, Start}
use Rattle.index_build.proofs.take.Goals as goal

-- an array has its length
three : (c : Start) → length c.args.state.held ≡ most_pending
three c = c.well_formed.0.1.1.0.1.0.1

-- the seam, as it is handed on
seam-is : (c : After-seam_of-seam)
    → let a = c.args in
    let s = c.seam_of-seam.result in
    (s.size ≤ length s.bytes) × (take s.size s.bytes ≡ four (left a.state) a.piece.now)
seam-is c =
    let a = c.args in
    rw c.seam_of-seam.ensures (seam_found (left a.state) a.piece.now)

pub slice_bounds-bytes-end : goal.slice_bounds-bytes-end
slice_bounds-bytes-end c = (seam-is (goal.at.slice_bounds-bytes-end c).After-seam_of-seam).0

pub slice_bounds-join-end : goal.slice_bounds-join-end
slice_bounds-join-end c =
    let s = c.seam_of-seam.result in sym (length-take-le s.size s.bytes (seam-is (goal.at.slice_bounds-join-end c).After-seam_of-seam).0)

pub join-requires : goal.join-requires
join-requires c =
    record {
      granted = granted-row (ap length c.mark_start.ensures ∙ simp length-sets) c.requires;
      three = three (goal.at.join-requires c).Start;
      seam-is = (seam-is (goal.at.join-requires c).After-seam_of-seam).1;
    }

pub returns : goal.returns
returns c =
    rw c.mark_start.ensures at c.join.ensures
