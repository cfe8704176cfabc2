-- `bytes_units` meets its contract: both steps, or whether the refusal of the first was due.
use Prim.Native.Nat.{◌≤◌}
use mathlib.Core.Path.{refl, sym}
use lib.ListN.{length}
use lib.Seq.{length-take-le}
use native.Mathlib.Omega.{arith}
use Rattle.terms.specs.Strict.{damaged}
use Rattle.utf8.specs.Scalar.{utf8}
use Rattle.utf8.proofs.FaithfulForm.{utf8-faithful}
use Rattle.utf16.specs.Scalar.{utf16}
use Rattle.utf16.proofs.FaithfulForm.{utf16-faithful}
use Rattle.convert_point.specs.Room.{most_of}
use Rattle.convert_point.specs.declared.Target.TheVariants.{Bytes, Units}
use Rattle.convert_point.proofs.Enough.{enough}
use Rattle.demand_convert.proofs.WayBack.{count_fits, round-granted, round-refused}
use Rattle.demand_convert.proofs.bytes_units.Goals.{In-Ok}
use Rattle.demand_convert.proofs.bytes_units.Goals as goal

within : (c : In-Ok) → c.in-Ok.n ≤ length c.to_units.new.out
within c =
    let a = c.args in
    omega (arith, count_fits damaged utf8 utf16 a.text.now a.between.now c.to_units.ensures (λ e. refl) c.in-Ok.n c.in-Ok.is, c.to_units.auto.out)

pub slice_bounds-units_as_bytes-end : goal.slice_bounds-units_as_bytes-end
slice_bounds-units_as_bytes-end c = within c

pub slice_bounds-units_as_bytes-end-in-Ok : goal.slice_bounds-units_as_bytes-end-in-Ok
slice_bounds-units_as_bytes-end-in-Ok c = sym (length-take-le _ _ (within c))

pub returns-in-Ok : goal.returns-in-Ok
returns-in-Ok c =
    let a = c.args in
    round-granted damaged damaged utf8 utf16 a.text.now a.between.now c.to_units.ensures utf8-faithful utf16-faithful (λ e. refl) c.in-Ok.n c.in-Ok.is
    a.back.now c.units_as_bytes.new.back c.units_as_bytes.result c.units_as_bytes.ensures

pub returns-in-Err : goal.returns-in-Err
returns-in-Err c =
    let a = c.args in
    round-refused damaged damaged utf8 utf16 a.text.now a.between.now c.to_units.ensures (λ e. refl) a.back.now c.in-Err.why c.in-Err.is
    (most_of Bytes Units (length a.text.now)) (enough Bytes Units a.text.now) c.due_bytes.result c.due_bytes.ensures
