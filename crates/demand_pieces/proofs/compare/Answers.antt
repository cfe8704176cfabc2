-- `compare` meets its contract: what was found is alike, and each way that was granted has written the whole repair.
use mathlib.Core.Path.{sym, ◌∙◌}
use mathlib.Core.Bool.{true≢false}
use lib.Seq.{length-take-le}
use borrow.Author.Tests.{not-false}
use Rattle.demand_feeding.specs.Comparing.{Wrote}
use Rattle.demand_pieces.proofs.compare.Goals.{Else-not-b}
use Rattle.demand_pieces.proofs.compare.Goals as goal

pub returns-then-not-are_alike : goal.returns-then-not-are_alike
returns-then-not-are_alike c =
    absurd (true≢false (sym (c.are_alike.ensures ∙ c.requires.alike) ∙ c.if-not-are_alike.true))

once-wrote : (c : Else-not-b) → let a = c.args in Wrote a.whole.now a.a a.once.now
once-wrote c = c.requires.once-wrote (not-false c.args.a.granted c.if-not-a.false)

parts-wrote : (c : Else-not-b) → let a = c.args in Wrote a.whole.now a.b a.parts.now
parts-wrote c = c.requires.parts-wrote (not-false c.args.b.granted c.if-not-b.false)

pub slice_bounds-eq-end : goal.slice_bounds-eq-end
slice_bounds-eq-end c = sym (length-take-le _ _ (once-wrote (goal.at.slice_bounds-eq-end c).Else-not-b).within)

pub slice_bounds-eq-end-then-eq : goal.slice_bounds-eq-end-then-eq
slice_bounds-eq-end-then-eq c = sym (length-take-le _ _ (parts-wrote (goal.at.slice_bounds-eq-end-then-eq c).Else-not-b).within)
