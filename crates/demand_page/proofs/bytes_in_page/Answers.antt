-- `bytes_in_page` meets its contract: the comparison of what was written, or whether the refusal was due.
use Prim.Native.Nat.{◌≤◌}
use mathlib.Core.Path.{◌≡◌, sym}
use mathlib.Core.Logic.{◌↔◌}
use mathlib.Core.Bool.{true}
use lib.ListN.{length, take}
use borrow.Author.Rules.{rules}
use Rattle.demand_shared.proofs.EqualExactly.{compared}
use lib.Seq.{length-take-le}
use native.Mathlib.Omega.{arith}
use Rattle.page.specs.Tables.{table_of}
use Rattle.page.specs.Lacking.{to_page_says}
use Rattle.demand_page.specs.Rounds.{in_page}
use Rattle.demand_page.proofs.PageRounds.{in-page-count}
use Rattle.demand_page.proofs.WayBack.{back-granted, back-refused}
use Rattle.demand_page.proofs.bytes_in_page.Goals.{In-Ok}
use Rattle.demand_page.proofs.bytes_in_page.Goals as goal

-- what was written is the form, and lies within the output
wrote : (c : In-Ok)
    → let a = c.args in
    (c.in-Ok.n ≡ length (in_page (table_of a.page) a.between.now)) × (c.in-Ok.n ≤ length a.back.now)
wrote c =
    let a = c.args in
    in-page-count (table_of a.page) a.between.now a.back.now c.to_page.ensures c.in-Ok.n c.in-Ok.is

within : (c : In-Ok) → c.in-Ok.n ≤ length c.to_page.new.out
within c = omega (arith, (wrote c).1, c.to_page.auto.out)

pub slice_bounds-eq-end : goal.slice_bounds-eq-end
slice_bounds-eq-end c = within (goal.at.slice_bounds-eq-end c).In-Ok

pub slice_bounds-eq-end-in-Ok : goal.slice_bounds-eq-end-in-Ok
slice_bounds-eq-end-in-Ok c = sym (length-take-le _ _ (within (goal.at.slice_bounds-eq-end-in-Ok c).In-Ok))

pub returns-in-Ok : goal.returns-in-Ok
returns-in-Ok c =
    let a = c.args in
    let same : (c.eq.result ≡ true) ↔ (a.text.now ≡ take c.in-Ok.n c.to_page.new.out) = search rules in
    back-granted (to_page_says (table_of a.page) (length a.back.now)) (in_page (table_of a.page)) a.text.now a.between.now a.back.now c.to_page.ensures
    c.in-Ok.n c.in-Ok.is (wrote (goal.at.returns-in-Ok c).In-Ok).0 c.eq.result (compared _ _ same)

pub returns-in-Err : goal.returns-in-Err
returns-in-Err c =
    let a = c.args in
    back-refused (to_page_says (table_of a.page) (length a.back.now)) (in_page (table_of a.page)) a.text.now a.between.now a.back.now c.to_page.ensures
    c.in-Err.why c.in-Err.is c.due_back.result c.due_back.ensures
