-- `bytes_page` meets its contract: both steps, or whether the refusal of the first was due.
use Prim.Native.Nat.{ℕ, ◌≤◌}
use mathlib.Core.Bool.{Bool}
use mathlib.Core.List.{List}
use mathlib.Core.Path.{◌≡◌, sym, ap, ◌∙◌}
use lib.ListN.{length}
use lib.Seq.{length-take-le}
use native.Mathlib.Omega.{arith}
use Rattle.terms.specs.Strict.{check_says}
use Rattle.utf8.specs.Bytes.{bytes}
use Rattle.page.specs.Tables.{table_of}
use Rattle.page.specs.Lacking.{held_up_to, to_page_says}
use Rattle.page.proofs.ThreePages.{is_page_lem}
use Rattle.page.proofs.PageRoundTrip.{bytes-page-bytes}
use Rattle.demand_shared.proofs.CallWrote.{refused_as, refused_says}
use Rattle.demand_page.specs.Due.{due_into}
use Rattle.demand_page.specs.Rounds.{as_bytes, as_bytes_says, in_page}
use Rattle.demand_page.proofs.PageRounds.{in-page-granted, in-page-count, as-bytes-told}
use Rattle.demand_page.proofs.RefusalDue.{due-into}
use Rattle.demand_page.proofs.WayBack.{round-granted, round-refused}
use Rattle.demand_page.proofs.bytes_page.Goals.{In-Ok}
use Rattle.demand_page.proofs.bytes_page.Goals as goal

-- what was written is the form, and lies within the output
wrote : (c : In-Ok)
    → let a = c.args in
    (c.in-Ok.n ≡ length (in_page (table_of a.page) a.text.now)) × (c.in-Ok.n ≤ length a.between.now)
wrote c =
    let a = c.args in
    in-page-count (table_of a.page) a.text.now a.between.now c.to_page.ensures c.in-Ok.n c.in-Ok.is

within : (c : In-Ok) → c.in-Ok.n ≤ length c.to_page.new.out
within c = omega (arith, (wrote c).1, c.to_page.auto.out)

pub slice_bounds-page_as_bytes-end : goal.slice_bounds-page_as_bytes-end
slice_bounds-page_as_bytes-end c = within c

pub slice_bounds-page_as_bytes-end-in-Ok : goal.slice_bounds-page_as_bytes-end-in-Ok
slice_bounds-page_as_bytes-end-in-Ok c = sym (length-take-le _ _ (within c))

pub returns-in-Ok : goal.returns-in-Ok
returns-in-Ok c =
    let a = c.args in
    let table = table_of a.page in
    let p = is_page_lem a.page in
    let g = in-page-granted table a.text.now a.between.now c.to_page.ensures c.in-Ok.n c.in-Ok.is in
    round-granted (to_page_says table (length a.between.now)) (in_page table) (as_bytes_says table (length a.back.now)) a.text.now a.between.now c.to_page.ensures
    (as_bytes table) c.in-Ok.n c.in-Ok.is (wrote (goal.at.returns-in-Ok c).In-Ok).0 a.back.now _ c.page_as_bytes.result c.page_as_bytes.ensures
    (bytes-page-bytes table p a.text.now g.clean g.held) (as-bytes-told table p a.text.now (length a.back.now) g.clean g.held)

pub returns-in-Err : goal.returns-in-Err
returns-in-Err c =
    let a = c.args in
    let table = table_of a.page in
    let r = c.in-Err.why in
    let e = c.in-Err.is in
    let says = to_page_says table (length a.between.now) a.text.now in
    let told = refused_as says (in_page table a.text.now) a.between.now c.to_page.ensures r e in
    let due : List ℕ → Bool = λ l. due_into l (check_says bytes a.text.now) (held_up_to table a.text.now) (length a.text.now) (length a.between.now) in
    round-refused (to_page_says table (length a.between.now)) (in_page table) (as_bytes_says table (length a.back.now)) a.text.now a.between.now c.to_page.ensures
    a.back.now r e c.due_in_page.result
    (c.due_in_page.ensures ∙ ap due (sym told)
    ∙ due-into table (length a.between.now) a.text.now (refused_says says (in_page table a.text.now) a.between.now c.to_page.ensures r e))
