-- `units_as_points` meets its contract: the comparison of what was written, or whether the refusal was due.
use Prim.Native.Nat.{◌≤◌}
use mathlib.Core.Path.{◌≡◌, refl, sym}
use mathlib.Core.Logic.{◌↔◌}
use mathlib.Core.Bool.{true}
use lib.ListN.{length, take}
use borrow.Author.Rules.{rules}
use Rattle.demand_shared.proofs.EqualExactly.{compared}
use lib.Seq.{length-take-le}
use native.Mathlib.Omega.{arith}
use Rattle.terms.specs.Strict.{damaged}
use Rattle.utf16.specs.Scalar.{utf16}
use Rattle.code_points.specs.Points.{code_points}
use Rattle.demand_convert.proofs.WayBack.{count_fits, back-granted, back-refused}
use Rattle.demand_convert.proofs.units_as_points.Goals.{In-Ok}
use Rattle.demand_convert.proofs.units_as_points.Goals as goal

within : (c : In-Ok) → c.in-Ok.n ≤ length c.to_points.new.out
within c =
    let a = c.args in
    omega (arith, count_fits damaged utf16 code_points a.between.now a.back.now c.to_points.ensures (λ e. refl) c.in-Ok.n c.in-Ok.is, c.to_points.auto.out)

pub slice_bounds-eq-end : goal.slice_bounds-eq-end
slice_bounds-eq-end c = within (goal.at.slice_bounds-eq-end c).In-Ok

pub slice_bounds-eq-end-in-Ok : goal.slice_bounds-eq-end-in-Ok
slice_bounds-eq-end-in-Ok c = sym (length-take-le _ _ (within (goal.at.slice_bounds-eq-end-in-Ok c).In-Ok))

pub returns-in-Ok : goal.returns-in-Ok
returns-in-Ok c =
    let a = c.args in
    let same : (c.eq.result ≡ true) ↔ (a.text.now ≡ take c.in-Ok.n c.to_points.new.out) = search rules in
    back-granted damaged utf16 code_points a.text.now a.between.now a.back.now c.to_points.ensures (λ e. refl) c.in-Ok.n c.in-Ok.is
    c.eq.result (compared _ _ same)

pub returns-in-Err : goal.returns-in-Err
returns-in-Err c =
    let a = c.args in
    back-refused damaged utf16 code_points a.text.now a.between.now a.back.now c.to_points.ensures c.in-Err.why c.in-Err.is
    c.due_back.result c.due_back.ensures
