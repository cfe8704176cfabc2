-- `state::is_kept` meets its contract: the test of a decoder's pending bytes, and then that of a lone 0D.
use mathlib.Core.Path.{◌≡◌, sym, ◌∙◌}
use mathlib.Core.Bool.{◌&&◌}
use lib.ListN.{length, get_or}
use lib.Dec.{eqb}
use borrow.Author.Tests.{eq-eqb, ne_eqb}
use Rattle.terms.specs.Limits.{most_pending}
use Rattle.utf8_pending.specs.Tail.{is_tail}
use Rattle.place.specs.Measures.{reader}
use Rattle.index_build.proofs.LoneReturn.{tail-kept, tail_other, tail_head, tail_return}
use Rattle.index_build.proofs.state.is_kept.Goals.{Else-held-ne13, Start}
use Rattle.index_build.proofs.state.is_kept.Goals as goal

-- an array has its length
three : (c : Start) → length c.args.held ≡ most_pending
three c = c.well_formed.0.1.0.1

pub returns-then-is_tail : goal.returns-then-is_tail
returns-then-is_tail c = sym (tail-kept c.args.held c.args.n (sym c.is_tail.ensures ∙ c.if-is_tail.true))

pub returns-then-n-ne1 : goal.returns-then-n-ne1
returns-then-n-ne1 c =
    let t = three (goal.at.returns-then-n-ne1 c).Start in
    tail_other c.args.held c.args.n t (sym c.is_tail.ensures ∙ c.if-is_tail.false) c.if-n-ne1.true

pub returns-then-held-ne13 : goal.returns-then-held-ne13
returns-then-held-ne13 c =
    let t = three (goal.at.returns-then-held-ne13 c).Start in
    tail_head c.args.held c.args.n t (sym c.is_tail.ensures ∙ c.if-is_tail.false) c.if-n-ne1.false c.if-held-ne13.true

-- a 0D is pending: the unused ones decide
kept : (c : Else-held-ne13) (three : length c.args.held ≡ most_pending)
    → let a = c.args in is_tail reader a.held a.n ≡ (eqb (get_or a.held 1 0) 0 && eqb (get_or a.held 2 0) 0)
kept c three = tail_return c.args.held c.args.n three c.if-n-ne1.false c.if-held-ne13.false

pub returns-then-held-ne0 : goal.returns-then-held-ne0
returns-then-held-ne0 c =
    let t = three (goal.at.returns-then-held-ne0 c).Start in
    sym (kept (goal.at.returns-then-held-ne0 c).Else-held-ne13 t ∙ rw (ne_eqb _ 0 c.if-held-ne0.true))

pub returns : goal.returns
returns c =
    sym (kept (goal.at.returns c).Else-held-ne13 (three (goal.at.returns c).Start) ∙ rw (eq-eqb _ 0 c.if-held-ne0.false))
