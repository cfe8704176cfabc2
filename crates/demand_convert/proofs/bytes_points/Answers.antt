-- `bytes_points` meets its contract: both steps, or whether the refusal of the first was due.
use Prim.Native.Nat.{◌≤◌}
use mathlib.Core.Path.{refl, sym}
use lib.ListN.{length}
use lib.Seq.{length-take-le}
use native.Mathlib.Omega.{arith}
use Rattle.terms.specs.Strict.{damaged}
use Rattle.utf8.specs.Scalar.{utf8}
use Rattle.utf8.proofs.FaithfulForm.{utf8-faithful}
use Rattle.code_points.specs.Points.{code_points, no_scalar}
use Rattle.code_points.proofs.CodePointsDivide.{points-faithful}
use Rattle.convert_point.specs.Room.{most_of}
use Rattle.convert_point.specs.declared.Target.TheVariants.{Bytes, Points}
use Rattle.convert_point.proofs.Enough.{enough}
use Rattle.demand_convert.proofs.WayBack.{count_fits, round-granted, round-refused}
use Rattle.demand_convert.proofs.bytes_points.Goals.{In-Ok}
use Rattle.demand_convert.proofs.bytes_points.Goals as goal

within : (c : In-Ok) → c.in-Ok.n ≤ length c.to_points.new.out
within c =
    let a = c.args in
    omega (arith, count_fits damaged utf8 code_points a.text.now a.between.now c.to_points.ensures (λ e. refl) c.in-Ok.n c.in-Ok.is, c.to_points.auto.out)

pub slice_bounds-points_as_bytes-end : goal.slice_bounds-points_as_bytes-end
slice_bounds-points_as_bytes-end c = within c

pub slice_bounds-points_as_bytes-end-in-Ok : goal.slice_bounds-points_as_bytes-end-in-Ok
slice_bounds-points_as_bytes-end-in-Ok c = sym (length-take-le _ _ (within c))

pub returns-in-Ok : goal.returns-in-Ok
returns-in-Ok c =
    let a = c.args in
    round-granted damaged no_scalar utf8 code_points a.text.now a.between.now c.to_points.ensures utf8-faithful points-faithful (λ e. refl) c.in-Ok.n c.in-Ok.is
    a.back.now c.points_as_bytes.new.back c.points_as_bytes.result c.points_as_bytes.ensures

pub returns-in-Err : goal.returns-in-Err
returns-in-Err c =
    let a = c.args in
    round-refused damaged no_scalar utf8 code_points a.text.now a.between.now c.to_points.ensures (λ e. refl) a.back.now c.in-Err.why c.in-Err.is
    (most_of Bytes Points (length a.text.now)) (enough Bytes Points a.text.now) c.due_bytes.result c.due_bytes.ensures
