-- `check` meets its contract: each test is the definition's.
use Rattle.std.proofs.Common.{[], ◌∷◌, sym, ◌∙◌}
use Rattle.place.proofs.WalkReached.{going-over, going-unfair, going_on}
use Rattle.place.proofs.Place.check.Goals as goal

pub returns-then-over : goal.returns-then-over
returns-then-over c = let a = c.args in going-over a.self a.rest.now (0 ∷ []) (sym c.over.ensures ∙ c.if-over.true)

pub returns-then-not-fair : goal.returns-then-not-fair
returns-then-not-fair c =
    let a = c.args in
    going-unfair a.self a.rest.now (0 ∷ []) (sym c.over.ensures ∙ c.if-over.false) (sym c.fair.ensures ∙ c.if-not-fair.true)

pub returns : goal.returns
returns c =
    let a = c.args in
    sym (going_on a.self a.rest.now (0 ∷ []) (sym c.over.ensures ∙ c.if-over.false) (sym c.fair.ensures ∙ c.if-not-fair.false))
