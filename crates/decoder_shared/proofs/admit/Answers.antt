-- `admit` meets its contract: the tests, the limit, and then the list.
use mathlib.Core.Path.{◌≡◌, sym, ◌∙◌}
use Prim.Native.Nat.{◌+◌, ◌*◌, ◌≤◌, ◌<◌}
use mathlib.Core.Bool.{true}
use borrow.Author.Tests.{lt-ltb, le-ltb}
use native.Mathlib.Omega.{arith}
use Rattle.terms.specs.Limits.{limit, entry_width}
use Rattle.terms.proofs.Tested.{tested-unsound, tested-over, tested-then}
use Rattle.decoder_shared.proofs.admit.Goals.{Else-not-sound, Else-taken-more}
use Rattle.decoder_shared.proofs.admit.Goals as goal

pub returns-then-not-sound : goal.returns-then-not-sound
returns-then-not-sound c =
    let a = c.args in
    tested-unsound a.sound a.taken a.more _ c.if-not-sound.true

-- the state has passed its tests
passed : (c : Else-not-sound) → c.args.sound ≡ true
passed c = c.if-not-sound.false

pub returns-then-taken-gt-LIMIT : goal.returns-then-taken-gt-LIMIT
returns-then-taken-gt-LIMIT c =
    let a = c.args in
    tested-over a.sound a.taken a.more _ (passed (goal.at.returns-then-taken-gt-LIMIT c).Else-not-sound) (omega (arith, c.if-taken-gt-LIMIT.true))

pub returns-then-taken-more : goal.returns-then-taken-more
returns-then-taken-more c =
    let a = c.args in
    tested-over a.sound a.taken a.more _ (passed (goal.at.returns-then-taken-more c).Else-not-sound) (omega (arith, c.if-taken-gt-LIMIT.false, c.if-taken-more.true))

-- nor do the elements go over the limit
within : (c : Else-taken-more) → let a = c.args in a.taken + a.more ≤ limit
within c = omega (arith, c.if-taken-gt-LIMIT.false, c.if-taken-more.false)

pub returns-then-row-room : goal.returns-then-row-room
returns-then-row-room c =
    let a = c.args in
    let h : a.row < entry_width * a.room = omega (arith, c.if-row-room.true) in
    sym (tested-then a.sound a.taken a.more _ (passed (goal.at.returns-then-row-room c).Else-not-sound) (within (goal.at.returns-then-row-room c).Else-taken-more) ∙ rw (lt-ltb a.row (entry_width * a.room) h))

pub returns : goal.returns
returns c =
    let a = c.args in
    let h : entry_width * a.room ≤ a.row = omega (arith, c.if-row-room.false) in
    sym (tested-then a.sound a.taken a.more _ (passed (goal.at.returns c).Else-not-sound) (within (goal.at.returns c).Else-taken-more) ∙ rw (le-ltb a.row (entry_width * a.room) h))
