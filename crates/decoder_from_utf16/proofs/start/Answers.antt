-- The room decides.
use borrow.Author.Tests.{lt-ltb, le-ltb}
use Rattle.terms.specs.Limits.{most_room}
use Rattle.decoder_from_utf16.proofs.start.Goals as goal

pub returns-then-room-gt-ROOM : goal.returns-then-room-gt-ROOM
returns-then-room-gt-ROOM c =
    let e = lt-ltb most_room c.args.room c.if-room-gt-ROOM.true in
    record { answer = rw e; state = rw (e, c.fresh.ensures) }

pub returns : goal.returns
returns c =
    let e = le-ltb most_room c.args.room c.if-room-gt-ROOM.false in
    record { answer = rw e; state = rw (e, c.fresh-2.ensures) }
