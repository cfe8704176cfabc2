-- `advance` meets its contract: the segment is added in all four counts.
use mathlib.Core.Path.{◌≡◌, ap, ◌∙◌}
use Prim.Native.Nat.{◌+◌}
use native.Mathlib.Omega.{arith}
use Rattle.place.specs.Measures.{place}
use Rattle.place.specs.Walk.{behind}
use Rattle.index_checkpoint.specs.Marks.{marked_once}
use Rattle.index_build.proofs.CheckpointPassed.{between-marked, units-few, behind-between}
use Rattle.index_build.proofs.advance.Goals.{After-units_of}
use Rattle.index_build.proofs.advance.Goals as goal

pub overflow_add-q-2 : goal.overflow_add-q-2
overflow_add-q-2 c = omega (arith, c.units_of.ensures, units-few c.args.size c.requires.some)

-- the place behind the segment
added : (c : After-units_of)
    → let a = c.args in
    place (a.p.bytes + a.size) (a.p.units + c.units_of.result) (a.p.points + 1) (a.p.lines + a.ends) ≡ behind a.p a.size a.ends
added c = rw c.units_of.ensures

pub returns : goal.returns
returns c =
    let a = c.args in
    record {
      place_is = added (goal.at.returns c).After-units_of;
      checkpoints = c.pass.ensures
          ∙ ap (marked_once a.row.now a.p) (added (goal.at.returns c).After-units_of)
          ∙ between-marked a.p (behind a.p a.size a.ends) a.row.now (behind-between a.p a.size a.ends a.row.now c.requires);
    }
