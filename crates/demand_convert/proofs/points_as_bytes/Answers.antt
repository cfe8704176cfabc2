-- `points_as_bytes` meets its contract: the comparison of what was written, or whether the refusal was due.
use Prim.Native.Nat.{◌≤◌}
use mathlib.Core.Path.{◌≡◌, refl, sym}
use mathlib.Core.Logic.{◌↔◌}
use mathlib.Core.Bool.{true}
use lib.ListN.{length, take}
use borrow.Author.Rules.{rules}
use Rattle.demand_shared.proofs.EqualExactly.{compared}
use lib.Seq.{length-take-le}
use native.Mathlib.Omega.{arith}
use Rattle.utf8.specs.Scalar.{utf8}
use Rattle.code_points.specs.Points.{code_points, no_scalar}
use Rattle.demand_convert.proofs.WayBack.{count_fits, back-granted, back-refused}
use Rattle.demand_convert.proofs.points_as_bytes.Goals.{In-Ok}
use Rattle.demand_convert.proofs.points_as_bytes.Goals as goal

within : (c : In-Ok) → c.in-Ok.n ≤ length c.to_bytes.new.out
within c =
    let a = c.args in
    omega (arith, count_fits no_scalar code_points utf8 a.between.now a.back.now c.to_bytes.ensures (λ e. refl) c.in-Ok.n c.in-Ok.is, c.to_bytes.auto.out)

pub slice_bounds-eq-end : goal.slice_bounds-eq-end
slice_bounds-eq-end c = within (goal.at.slice_bounds-eq-end c).In-Ok

pub slice_bounds-eq-end-in-Ok : goal.slice_bounds-eq-end-in-Ok
slice_bounds-eq-end-in-Ok c = sym (length-take-le _ _ (within (goal.at.slice_bounds-eq-end-in-Ok c).In-Ok))

pub returns-in-Ok : goal.returns-in-Ok
returns-in-Ok c =
    let a = c.args in
    let same : (c.eq.result ≡ true) ↔ (a.text.now ≡ take c.in-Ok.n c.to_bytes.new.out) = search rules in
    back-granted no_scalar code_points utf8 a.text.now a.between.now a.back.now c.to_bytes.ensures (λ e. refl) c.in-Ok.n c.in-Ok.is
    c.eq.result (compared _ _ same)

pub returns-in-Err : goal.returns-in-Err
returns-in-Err c =
    let a = c.args in
    back-refused no_scalar code_points utf8 a.text.now a.between.now a.back.now c.to_bytes.ensures c.in-Err.why c.in-Err.is
    c.due_back.result c.due_back.ensures
