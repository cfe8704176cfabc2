-- `page_bytes` meets its contract: both steps, or whether the refusal of the first was due.
use Prim.Native.Nat.{ℕ, ◌≤◌, ◌<◌}
use mathlib.Core.Bool.{Bool}
use mathlib.Core.List.{List, [], ◌∷◌}
use mathlib.Core.Path.{◌≡◌, sym, ap, ◌∙◌}
use lib.ListN.{length, get_or}
use lib.Seq.{length-take-le}
use native.Mathlib.Omega.{arith}
use Rattle.page.specs.Tables.{table_of}
use Rattle.page.specs.Lacking.{to_page_says}
use Rattle.page.proofs.ThreePages.{is_page_lem}
use Rattle.page.proofs.PageRoundTrip.{page-bytes-page}
use Rattle.convert_point.specs.Room.{most_of}
use Rattle.convert_point.specs.declared.Target.TheVariants.{Bytes, Units}
use Rattle.demand_shared.proofs.CallWrote.{refused_as, refused_says}
use Rattle.demand_convert.specs.Due.{due_there}
use Rattle.demand_page.specs.Rounds.{as_bytes, as_bytes_says, in_page}
use Rattle.demand_page.proofs.PageRounds.{as-bytes-count, in-page-told, three-enough}
use Rattle.demand_page.proofs.RefusalDue.{due-from}
use Rattle.demand_page.proofs.WayBack.{round-granted, round-refused}
use Rattle.demand_page.proofs.page_bytes.Goals.{In-Ok}
use Rattle.demand_page.proofs.page_bytes.Goals as goal

-- what was written is the form, and lies within the output
wrote : (c : In-Ok)
    → let a = c.args in
    (c.in-Ok.n ≡ length (as_bytes (table_of a.page) a.text.now)) × (c.in-Ok.n ≤ length a.between.now)
wrote c =
    let a = c.args in
    as-bytes-count (table_of a.page) a.text.now a.between.now c.to_bytes.ensures c.in-Ok.n c.in-Ok.is

within : (c : In-Ok) → c.in-Ok.n ≤ length c.to_bytes.new.out
within c = omega (arith, (wrote c).1, c.to_bytes.auto.out)

pub slice_bounds-bytes_in_page-end : goal.slice_bounds-bytes_in_page-end
slice_bounds-bytes_in_page-end c = within c

pub slice_bounds-bytes_in_page-end-in-Ok : goal.slice_bounds-bytes_in_page-end-in-Ok
slice_bounds-bytes_in_page-end-in-Ok c = sym (length-take-le _ _ (within c))

pub returns-in-Ok : goal.returns-in-Ok
returns-in-Ok c =
    let a = c.args in
    let table = table_of a.page in
    let p = is_page_lem a.page in
    let small : (i : ℕ) → get_or a.text.now i 0 < 256 = λ i. omega (arith, c.type_inv.text i) in
    round-granted (as_bytes_says table (length a.between.now)) (as_bytes table) (to_page_says table (length a.back.now)) a.text.now a.between.now c.to_bytes.ensures
    (in_page table) c.in-Ok.n c.in-Ok.is (wrote (goal.at.returns-in-Ok c).In-Ok).0 a.back.now _ c.bytes_in_page.result c.bytes_in_page.ensures
    (page-bytes-page table p a.text.now small) (in-page-told table p a.text.now (length a.back.now) small)

pub returns-in-Err : goal.returns-in-Err
returns-in-Err c =
    let a = c.args in
    let table = table_of a.page in
    let r = c.in-Err.why in
    let e = c.in-Err.is in
    let says = as_bytes_says table (length a.between.now) a.text.now in
    let told = refused_as says (as_bytes table a.text.now) a.between.now c.to_bytes.ensures r e in
    let most = most_of Units Bytes (length a.text.now) in
    let due : List ℕ → Bool = λ l. due_there l (0 ∷ []) (length a.text.now) (length a.between.now) most in
    round-refused (as_bytes_says table (length a.between.now)) (as_bytes table) (to_page_says table (length a.back.now)) a.text.now a.between.now c.to_bytes.ensures
    a.back.now r e c.due_as_bytes.result
    (c.due_as_bytes.ensures ∙ ap due (sym told)
    ∙ due-from a.text.now (as_bytes table a.text.now) (length a.between.now) most (three-enough a.page a.text.now)
    (refused_says says (as_bytes table a.text.now) a.between.now c.to_bytes.ensures r e))
