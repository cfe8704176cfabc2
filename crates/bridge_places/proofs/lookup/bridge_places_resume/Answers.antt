-- What the lookup told is told, where the place and the kind are what they should be.
use mathlib.Core.Path.{◌∙◌}
use Rattle.place.specs.Walk.{resume_says}
use Rattle.bridge_numbers.proofs.WrapperTells.{as_said, untold, also}
use Rattle.bridge_numbers.proofs.AllSaid.{said_placed}
use Rattle.bridge_numbers.proofs.CalledWhere.{not-from, not-kind, is-asked, as_asked}
use Rattle.bridge_places.proofs.lookup.bridge_places_resume.Goals as goal

pub returns-then-from-lt4 : goal.returns-then-from-lt4
returns-then-from-lt4 c =
    let a = c.args in
    untold (not-from a.from.now a.kind a.says.now c.if-from-lt4.true)

pub returns-then-kind-ge4 : goal.returns-then-kind-ge4
returns-then-kind-ge4 c =
    let a = c.args in
    untold (not-kind a.from.now a.kind a.says.now c.if-from-lt4.false c.if-kind-ge4.true)

pub returns : goal.returns
returns c =
    let a = c.args in
    let e = as_asked (λ m n p. resume_says m n p a.text.now) a.kind a.offset c.offset_of.ensures c.place_of.ensures in
    also (is-asked a.from.now a.kind c.if-from-lt4.false c.if-kind-ge4.false)
    (as_said (said_placed c.resume.result c.say_placed.ensures ∙ c.resume.ensures ∙ e) c.tell.ensures)
