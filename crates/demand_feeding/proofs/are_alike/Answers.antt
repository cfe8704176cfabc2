-- `are_alike` meets its contract: its tests are the definition's, and a way that is granted as is due has room for its entries.
use mathlib.Core.Path.{◌≡◌, sym, ap, ◌∙◌}
use Prim.Native.Nat.{ℕ, ◌*◌, ◌≤◌}
use mathlib.Core.Logic.{◌↔◌}
use mathlib.Core.List.{List}
use borrow.Author.Rules.{rules}
use Rattle.demand_shared.proofs.EqualExactly.{compared}
use mathlib.Core.Bool.{true, beq}
use lib.ListN.{length, take}
use lib.Seq.{length-take-le}
use borrow.Author.Tests.{not-true, not-false}
use native.Mathlib.Omega.{arith}
use Rattle.terms.specs.Limits.{entry_width}
use Rattle.demand_shared.specs.Equal.{equal}
use Rattle.demand_feeding.specs.Comparing.{enough}
use Rattle.demand_feeding.proofs.FoundAlike.{beq-yes, enough-start, enough-stored}
use Rattle.demand_feeding.proofs.are_alike.Goals.{Else-a-is_enough, Else-b-is_enough, Else-not-b, then-not-a-via-then-not-a, then-not-a-via-else-not-a+then-not-b}
use Rattle.demand_feeding.proofs.are_alike.Goals as goal

pub returns-then-a-is_enough : goal.returns-then-a-is_enough
returns-then-a-is_enough c =
    let a = c.args in
    rw (ap (beq a.a.granted) (sym c.is_enough.ensures) ∙ not-true _ c.if-a-is_enough.true)

-- each way is granted exactly where there is room
once-due : (c : Else-a-is_enough) → let a = c.args in
    beq a.a.granted (enough a.room (length a.once_list.now) a.form a.once) ≡ true
once-due c =
    let a = c.args in
    ap (beq a.a.granted) (sym c.is_enough.ensures) ∙ not-false _ c.if-a-is_enough.false

pub returns-then-b-is_enough : goal.returns-then-b-is_enough
returns-then-b-is_enough c =
    let a = c.args in
    rw (
      once-due (goal.at.returns-then-b-is_enough c).Else-a-is_enough,
      ap (beq a.b.granted) (sym c.is_enough-2.ensures) ∙ not-true _ c.if-b-is_enough.true,
    )

parts-due : (c : Else-b-is_enough) → let a = c.args in
    beq a.b.granted (enough a.room (length a.parts_list.now) a.form a.parts) ≡ true
parts-due c =
    let a = c.args in
    ap (beq a.b.granted) (sym c.is_enough-2.ensures) ∙ not-false _ c.if-b-is_enough.false

pub returns-then-not-a : goal.returns-then-not-a
returns-then-not-a c =
    let a = c.args in
    let at = goal.at.returns-then-not-a c in
    let once = once-due at.Else-a-is_enough in
    let parts = parts-due at.Else-b-is_enough in
    elim c.then-not-a.branch [
      | then-not-a-via-then-not-a w ↦ rw (once, parts, not-true a.a.granted w.if-not-a.true)
      | then-not-a-via-else-not-a+then-not-b w ↦ rw (once, parts, not-false a.a.granted w.if-not-a.false, not-true a.b.granted w.if-not-b.true)
    ]

pub returns-then-not-same_totals : goal.returns-then-not-same_totals
returns-then-not-same_totals c =
    let a = c.args in
    rw (
      once-due (goal.at.returns-then-not-same_totals c).Else-a-is_enough,
      parts-due (goal.at.returns-then-not-same_totals c).Else-b-is_enough,
      not-false a.a.granted c.if-not-a.false,
      not-false a.b.granted c.if-not-b.false,
      sym c.same_totals.ensures ∙ c.if-not-same_totals.true,
    )

once-enough : (c : Else-not-b) → let a = c.args in
    let is = enough a.room (length a.once_list.now) a.form a.once in
    beq a.a.granted is ≡ true → is ≡ true
once-enough c due = beq-yes c.args.a.granted _ due (not-false c.args.a.granted c.if-not-a.false)

parts-enough : (c : Else-not-b) → let a = c.args in
    let is = enough a.room (length a.parts_list.now) a.form a.parts in
    beq a.b.granted is ≡ true → is ≡ true
parts-enough c due = beq-yes c.args.b.granted _ due (not-false c.args.b.granted c.if-not-b.false)

pub overflow_mul-n : goal.overflow_mul-n
overflow_mul-n c =
    let a = c.args in
    let at = goal.at.overflow_mul-n c in
    let is = once-enough at.Else-not-b (once-due at.Else-a-is_enough) in
    record { fits = omega (arith, c.min-n.ensures, enough-start a.room (length a.once_list.now) a.form a.once is) }

pub slice_bounds-eq-end : goal.slice_bounds-eq-end
slice_bounds-eq-end c =
    let a = c.args in
    let at = goal.at.slice_bounds-eq-end c in
    let is = parts-enough at.Else-not-b (parts-due at.Else-b-is_enough) in
    let i : entry_width * c.min-n.result ≤ length a.parts_list.now
    = rw c.min-n.ensures (enough-stored a.room (length a.parts_list.now) a.form a.parts is a.a.count) in
    sym (length-take-le _ _ i)

pub slice_bounds-eq-end-2 : goal.slice_bounds-eq-end-2
slice_bounds-eq-end-2 c =
    let a = c.args in
    let at = goal.at.slice_bounds-eq-end-2 c in
    let is = once-enough at.Else-not-b (once-due at.Else-a-is_enough) in
    let i : entry_width * c.min-n.result ≤ length a.once_list.now
    = rw c.min-n.ensures (enough-stored a.room (length a.once_list.now) a.form a.once is a.a.count) in
    sym (length-take-le _ _ i)

pub returns : goal.returns
returns c =
    let a = c.args in
    rw (
      once-due (goal.at.returns c).Else-a-is_enough,
      parts-due (goal.at.returns c).Else-b-is_enough,
      not-false a.a.granted c.if-not-a.false,
      not-false a.b.granted c.if-not-b.false,
      sym c.same_totals.ensures ∙ c.if-not-same_totals.false,
    )
    (let of : ℕ → List ℕ → List ℕ = λ n list. take (entry_width * n) list in
    let same : (c.eq.result ≡ true) ↔ (of c.min-n.result a.parts_list.now ≡ of c.min-n.result a.once_list.now) = search rules in
    compared _ _ same ∙ ap (λ n. equal (of n a.parts_list.now) (of n a.once_list.now)) c.min-n.ensures)
