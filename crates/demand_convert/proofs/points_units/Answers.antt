-- `points_units` meets its contract: both steps, or whether the refusal of the first was due.
use Prim.Native.Nat.{◌≤◌}
use mathlib.Core.Path.{refl, sym}
use lib.ListN.{length}
use lib.Seq.{length-take-le}
use native.Mathlib.Omega.{arith}
use Rattle.terms.specs.Strict.{damaged}
use Rattle.utf16.specs.Scalar.{utf16}
use Rattle.utf16.proofs.FaithfulForm.{utf16-faithful}
use Rattle.code_points.specs.Points.{code_points, no_scalar}
use Rattle.code_points.proofs.CodePointsDivide.{points-faithful}
use Rattle.convert_point.specs.Room.{most_of}
use Rattle.convert_point.specs.declared.Target.TheVariants.{Units, Points}
use Rattle.convert_point.proofs.Enough.{enough}
use Rattle.demand_convert.proofs.WayBack.{count_fits, round-granted, round-refused}
use Rattle.demand_convert.proofs.points_units.Goals.{In-Ok}
use Rattle.demand_convert.proofs.points_units.Goals as goal

within : (c : In-Ok) → c.in-Ok.n ≤ length c.to_units.new.out
within c =
    let a = c.args in
    omega (arith, count_fits no_scalar code_points utf16 a.text.now a.between.now c.to_units.ensures (λ e. refl) c.in-Ok.n c.in-Ok.is, c.to_units.auto.out)

pub slice_bounds-units_as_points-end : goal.slice_bounds-units_as_points-end
slice_bounds-units_as_points-end c = within c

pub slice_bounds-units_as_points-end-in-Ok : goal.slice_bounds-units_as_points-end-in-Ok
slice_bounds-units_as_points-end-in-Ok c = sym (length-take-le _ _ (within c))

pub returns-in-Ok : goal.returns-in-Ok
returns-in-Ok c =
    let a = c.args in
    round-granted no_scalar damaged code_points utf16 a.text.now a.between.now c.to_units.ensures points-faithful utf16-faithful (λ e. refl) c.in-Ok.n c.in-Ok.is
    a.back.now c.units_as_points.new.back c.units_as_points.result c.units_as_points.ensures

pub returns-in-Err : goal.returns-in-Err
returns-in-Err c =
    let a = c.args in
    round-refused no_scalar damaged code_points utf16 a.text.now a.between.now c.to_units.ensures (λ e. refl) a.back.now c.in-Err.why c.in-Err.is
    (most_of Points Units (length a.text.now)) (enough Points Units a.text.now) c.due_points.result c.due_points.ensures
