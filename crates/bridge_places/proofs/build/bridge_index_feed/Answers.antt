-- What the feed told is told, and the next state put.
use mathlib.Core.Path.{◌≡◌, sym, ◌∙◌}
use mathlib.Core.Bool.{true}
use Rattle.bridge_numbers.specs.States.{is_state}
use Rattle.bridge_numbers.proofs.HoldsState.{state-long}
use Rattle.bridge_numbers.proofs.WrapperTells.{roomed}
use Rattle.bridge_numbers.proofs.CalledWhere.{not-state, not-roomy, is-ready}
use Rattle.bridge_places.proofs.StateHandedOn.{unbuilt, was_built}
use Rattle.bridge_places.proofs.build.bridge_index_feed.Goals.{Else-not-is_state}
use Rattle.bridge_places.proofs.build.bridge_index_feed.Goals as goal

-- the slice is a state
passed : (c : Else-not-is_state) → is_state 8 c.args.state.now ≡ true
passed c = sym c.is_state.ensures ∙ c.if-not-is_state.false

pub returns-then-not-is_state : goal.returns-then-not-is_state
returns-then-not-is_state c =
    let a = c.args in
    unbuilt (not-state (is_state 8 a.state.now) a.says.now (sym c.is_state.ensures ∙ c.if-not-is_state.true))

pub returns-then-says-lt-ROOM : goal.returns-then-says-lt-ROOM
returns-then-says-lt-ROOM c =
    let a = c.args in
    unbuilt (not-roomy (is_state 8 a.state.now) a.says.now (passed (goal.at.returns-then-says-lt-ROOM c).Else-not-is_state) c.if-says-lt-ROOM.true)

pub returns : goal.returns
returns c =
    let a = c.args in
    was_built (is-ready (is_state 8 a.state.now) a.says.now (passed (goal.at.returns c).Else-not-is_state) c.if-says-lt-ROOM.false) c.builder_of.ensures
    c.feed-built.ensures (state-long 8 a.state.now (passed (goal.at.returns c).Else-not-is_state)) c.keep_builder.ensures c.say_checked.ensures (roomed c.if-says-lt-ROOM.false c.tell.ensures)
