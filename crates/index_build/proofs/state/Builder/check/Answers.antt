-- `Builder::check` meets its contract: the tests, the limit, and then the room.
use Prim.Native.Nat.{◌+◌, ◌≤◌}
use mathlib.Core.Path.{◌≡◌, sym, ◌∙◌}
use mathlib.Core.Bool.{true}
use native.Mathlib.Omega.{arith}
use Rattle.terms.specs.Limits.{limit}
use Rattle.index_build.specs.State.{sound}
use Rattle.index_build.proofs.TestsAsFacts.{sound_is}
use Rattle.index_build.proofs.ChecksInOrder.{says-unsound, says-over, says-short, says-done}
use Rattle.index_build.proofs.state.Builder.check.Goals.{Else-not-is_sound, Else-self-more}
use Rattle.index_build.proofs.state.Builder.check.Goals as goal

pub returns-then-not-is_sound : goal.returns-then-not-is_sound
returns-then-not-is_sound c =
    let a = c.args in
    says-unsound a.self a.more a.room (sym c.is_sound.ensures ∙ c.if-not-is_sound.true)

-- the state has passed its tests
passed : (c : Else-not-is_sound) → sound c.args.self ≡ true
passed c = sym c.is_sound.ensures ∙ c.if-not-is_sound.false

pub overflow_sub-self : goal.overflow_sub-self
overflow_sub-self c =
    let s = sound_is c.args.self (passed (goal.at.overflow_sub-self c).Else-not-is_sound) in omega (arith, s.within)

pub returns-then-self-more : goal.returns-then-self-more
returns-then-self-more c =
    let a = c.args in
    let p = passed (goal.at.returns-then-self-more c).Else-not-is_sound in
    let s = sound_is a.self p in
    says-over a.self a.more a.room p (omega (arith, c.if-self-more.true, s.within))

-- nor does the text go over the limit
within : (c : Else-self-more) (passed : sound c.args.self ≡ true)
    → let a = c.args in a.self.taken + a.more ≤ limit
within c passed =
    let s = sound_is c.args.self passed in
    omega (arith, c.if-self-more.false, s.within)

pub returns-then-room-needed : goal.returns-then-room-needed
returns-then-room-needed c =
    let a = c.args in
    let p = passed (goal.at.returns-then-room-needed c).Else-not-is_sound in
    let w = within (goal.at.returns-then-room-needed c).Else-self-more p in
    says-short a.self a.more a.room p w c.needed-needed.result c.needed-needed.ensures c.if-room-needed.true

pub returns : goal.returns
returns c =
    let a = c.args in
    let p = passed (goal.at.returns c).Else-not-is_sound in
    let w = within (goal.at.returns c).Else-self-more p in
    says-done a.self a.more a.room p w (rw (← c.needed-needed.ensures) c.if-room-needed.false)
