-- `building::build_in_pieces` meets its contract: after each call the caller has what the course of the calls leaves.
use mathlib.Core.Path.{◌≡◌, sym, ◌∙◌}
use mathlib.Core.List.{[]}
use native.Mathlib.Numerals.{add-one}
use native.Mathlib.Omega.{arith}
use Rattle.terms.specs.Told.{is_granted, if_granted, told_checked}
use Rattle.terms.proofs.ToldBack.{ok-granted}
use Rattle.demand_index.proofs.CallByCall.{along-next, along-stop, along-end}
use Rattle.demand_index.proofs.building.build_in_pieces.Goals.{then-is_ok, else-is_ok}
use Rattle.demand_index.proofs.building.build_in_pieces.Goals as goal

pub loop-k-preserved : goal.loop-k-preserved
loop-k-preserved c =
    let a = c.args in
    let from : c.if-is_ok.from ≡ if_granted (told_checked c.feed-fed.result.answer) c.bring-to.result c.loop-k.from =
    let granted : is_granted (told_checked c.feed-fed.result.answer) ≡ c.is_ok.result = sym (ok-granted (λ _. []) c.feed-fed.result.answer) ∙ sym c.is_ok.ensures.value in
    elim c.if-is_ok.branch [
      | then-is_ok w ↦ rw (w.from-is, granted, w.if-is_ok.true)
      | else-is_ok w ↦ rw (w.from-is, granted, w.if-is_ok.false)
    ] in
    rw (add-one c.loop-k.k)
    (along-next a.text.now a.cuts.now a.row.now c.loop-k.invariant (omega arith) c.cut_at.result c.cut_at.ensures
    c.bring-to.result c.bring-to.ensures c.feed-fed.ensures c.if-is_ok.from from c.feed-fed.auto.row)

pub returns-then-from-text : goal.returns-then-from-text
returns-then-from-text c =
    let a = c.args in
    along-stop a.text.now a.cuts.now a.row.now c.loop-k.invariant (omega arith) c.if-from-text.true

pub returns : goal.returns
returns c =
    let a = c.args in
    along-end a.text.now a.cuts.now a.row.now c.loop-k.invariant (omega arith) c.if-from-text.false c.end.ensures
