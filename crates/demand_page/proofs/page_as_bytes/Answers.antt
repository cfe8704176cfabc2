-- `page_as_bytes` meets its contract: the comparison of what was written, or whether the refusal was due.
use Prim.Native.Nat.{◌≤◌}
use mathlib.Core.Path.{◌≡◌, sym}
use mathlib.Core.Logic.{◌↔◌}
use mathlib.Core.Bool.{true}
use lib.ListN.{length, take}
use borrow.Author.Rules.{rules}
use Rattle.demand_shared.proofs.EqualExactly.{compared}
use lib.Seq.{length-take-le}
use native.Mathlib.Omega.{arith}
use Rattle.page.specs.Tables.{table_of}
use Rattle.demand_page.specs.Rounds.{as_bytes, as_bytes_says}
use Rattle.demand_page.proofs.PageRounds.{as-bytes-count}
use Rattle.demand_page.proofs.WayBack.{back-granted, back-refused}
use Rattle.demand_page.proofs.page_as_bytes.Goals.{In-Ok}
use Rattle.demand_page.proofs.page_as_bytes.Goals as goal

-- what was written is the form, and lies within the output
wrote : (c : In-Ok)
    → let a = c.args in
    (c.in-Ok.n ≡ length (as_bytes (table_of a.page) a.between.now)) × (c.in-Ok.n ≤ length a.back.now)
wrote c =
    let a = c.args in
    as-bytes-count (table_of a.page) a.between.now a.back.now c.to_bytes.ensures c.in-Ok.n c.in-Ok.is

within : (c : In-Ok) → c.in-Ok.n ≤ length c.to_bytes.new.out
within c = omega (arith, (wrote c).1, c.to_bytes.auto.out)

pub slice_bounds-eq-end : goal.slice_bounds-eq-end
slice_bounds-eq-end c = within (goal.at.slice_bounds-eq-end c).In-Ok

pub slice_bounds-eq-end-in-Ok : goal.slice_bounds-eq-end-in-Ok
slice_bounds-eq-end-in-Ok c = sym (length-take-le _ _ (within (goal.at.slice_bounds-eq-end-in-Ok c).In-Ok))

pub returns-in-Ok : goal.returns-in-Ok
returns-in-Ok c =
    let a = c.args in
    let same : (c.eq.result ≡ true) ↔ (a.text.now ≡ take c.in-Ok.n c.to_bytes.new.out) = search rules in
    back-granted (as_bytes_says (table_of a.page) (length a.back.now)) (as_bytes (table_of a.page)) a.text.now a.between.now a.back.now c.to_bytes.ensures
    c.in-Ok.n c.in-Ok.is (wrote (goal.at.returns-in-Ok c).In-Ok).0 c.eq.result (compared _ _ same)

pub returns-in-Err : goal.returns-in-Err
returns-in-Err c =
    let a = c.args in
    back-refused (as_bytes_says (table_of a.page) (length a.back.now)) (as_bytes (table_of a.page)) a.text.now a.between.now a.back.now c.to_bytes.ensures
    c.in-Err.why c.in-Err.is c.due_back.result c.due_back.ensures
