-- `step` meets its contract: the room is tested, and the feed's answer says whether the watch is granted.
use mathlib.Core.Path.{◌∙◌}
use native.Mathlib.Nat.{le_refl}
use Rattle.decoder_watch.proofs.WatchIsFeed.{step-over, step-refused, step-granted, step_fits}
use Rattle.decoder_watch.proofs.step.Goals as goal

pub returns-then-state-gt-ROOM : goal.returns-then-state-gt-ROOM
returns-then-state-gt-ROOM c = c.refuse.ensures ∙ step-over c.args.state c.args.b c.if-state-gt-ROOM.true

pub overflow_cast-result : goal.overflow_cast-result
overflow_cast-result c =
    record {
      fits = step_fits c.args.state c.if-state-gt-ROOM.false c.args.b _ _ (le_refl 6) c.feed-fed.ensures c.in-Ok.field-0 c.in-Ok.is;
    }

pub returns-in-Ok : goal.returns-in-Ok
returns-in-Ok c =
    step-granted c.args.state c.if-state-gt-ROOM.false c.args.b _ _ (le_refl 6) c.feed-fed.ensures c.in-Ok.field-0 c.in-Ok.is

pub returns-in-Err : goal.returns-in-Err
returns-in-Err c =
    c.refuse-in-Err.ensures
    ∙ step-refused c.args.state c.if-state-gt-ROOM.false c.args.b _ _ (le_refl 6) c.feed-fed.ensures c.in-Err.field-0 c.in-Err.is
