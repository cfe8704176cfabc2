-- `hold` meets its contract: three bytes in their places.
use Rattle.utf8_pending.proofs.HeldInPlaces.{three-places}
use Rattle.utf8_pending.proofs.hold.Goals as goal

pub returns : goal.returns
returns c =
    rw (c.byte_at.ensures, c.byte_at-2.ensures, c.byte_at-3.ensures) (three-places c.args.left.now)
