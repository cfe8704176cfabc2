-- `take` meets its contract: the seam is handed on.
use Prim.Native.Nat.{◌≤◌}
use mathlib.Core.Path.{◌≡◌, sym}
use lib.ListN.{length, take}
use lib.Seq.{length-take-le}
use Rattle.utf8_pending.specs.Tail.{seamed}
use Rattle.utf8_pending.proofs.HeldInPlaces.{seamed-found}
use Rattle.decoder.specs.Tests.{left}
use Rattle.decoder_to_utf16.proofs.take.Goals.{After-seam_with-seam}
use Rattle.decoder_to_utf16.proofs.take.Goals as goal

-- the seam, as it is handed on
seam-is : (c : After-seam_with-seam)
    → let a = c.args in
    let s = c.seam_with-seam.result in
    (s.size ≤ length s.bytes) × (take s.size s.bytes ≡ seamed (left a.state) a.piece.now)
seam-is c =
    let a = c.args in
    rw c.seam_with-seam.ensures (seamed-found (left a.state) a.piece.now)

pub slice_bounds-bytes-end : goal.slice_bounds-bytes-end
slice_bounds-bytes-end c = (seam-is (goal.at.slice_bounds-bytes-end c).After-seam_with-seam).0

pub slice_bounds-join-end : goal.slice_bounds-join-end
slice_bounds-join-end c =
    let s = c.seam_with-seam.result in sym (length-take-le s.size s.bytes (seam-is (goal.at.slice_bounds-join-end c).After-seam_with-seam).0)

pub join-requires : goal.join-requires
join-requires c =
    (c.requires, (seam-is (goal.at.join-requires c).After-seam_with-seam).1)
