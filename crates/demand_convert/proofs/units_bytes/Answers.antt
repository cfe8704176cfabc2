-- `units_bytes` meets its contract: both steps, or whether the refusal of the first was due.
use Prim.Native.Nat.{◌≤◌}
use mathlib.Core.Path.{refl, sym}
use lib.ListN.{length}
use lib.Seq.{length-take-le}
use native.Mathlib.Omega.{arith}
use Rattle.terms.specs.Strict.{damaged}
use Rattle.utf8.specs.Scalar.{utf8}
use Rattle.utf8.proofs.FaithfulForm.{utf8-faithful}
use Rattle.utf16.specs.Scalar.{utf16}
use Rattle.utf16.proofs.FaithfulForm.{utf16-faithful}
use Rattle.convert_point.specs.Room.{most_of}
use Rattle.convert_point.specs.declared.Target.TheVariants.{Bytes, Units}
use Rattle.convert_point.proofs.Enough.{enough}
use Rattle.demand_convert.proofs.WayBack.{count_fits, round-granted, round-refused}
use Rattle.demand_convert.proofs.units_bytes.Goals.{In-Ok}
use Rattle.demand_convert.proofs.units_bytes.Goals as goal

within : (c : In-Ok) → c.in-Ok.n ≤ length c.to_bytes.new.out
within c =
    let a = c.args in
    omega (arith, count_fits damaged utf16 utf8 a.text.now a.between.now c.to_bytes.ensures (λ e. refl) c.in-Ok.n c.in-Ok.is, c.to_bytes.auto.out)

pub slice_bounds-bytes_as_units-end : goal.slice_bounds-bytes_as_units-end
slice_bounds-bytes_as_units-end c = within c

pub slice_bounds-bytes_as_units-end-in-Ok : goal.slice_bounds-bytes_as_units-end-in-Ok
slice_bounds-bytes_as_units-end-in-Ok c = sym (length-take-le _ _ (within c))

pub returns-in-Ok : goal.returns-in-Ok
returns-in-Ok c =
    let a = c.args in
    round-granted damaged damaged utf16 utf8 a.text.now a.between.now c.to_bytes.ensures utf16-faithful utf8-faithful (λ e. refl) c.in-Ok.n c.in-Ok.is
    a.back.now c.bytes_as_units.new.back c.bytes_as_units.result c.bytes_as_units.ensures

pub returns-in-Err : goal.returns-in-Err
returns-in-Err c =
    let a = c.args in
    round-refused damaged damaged utf16 utf8 a.text.now a.between.now c.to_bytes.ensures (λ e. refl) a.back.now c.in-Err.why c.in-Err.is
    (most_of Units Bytes (length a.text.now)) (enough Units Bytes a.text.now) c.due_units.result c.due_units.ensures
