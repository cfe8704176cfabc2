-- `step_by` meets its contract: the segment that the reader told is added in all four counts.
use Rattle.std.proofs.Common.{arith}
use Rattle.utf8.specs.Classes.{by_classes}
use Rattle.utf8.proofs.ClassesDivide.{classes_division}
use Rattle.place.proofs.OneStep.{stepped_end, added}
use Rattle.place.proofs.step_by.Goals as goal

pub returns-then-rest-eq0 : goal.returns-then-rest-eq0
returns-then-rest-eq0 c = let a = c.args in stepped_end (by_classes a.classes.now) a.p a.rest.now a.ends c.if-rest-eq0.true

pub returns : goal.returns
returns c =
    let a = c.args in
    let h = added (by_classes a.classes.now) (classes_division a.classes.now) a.p a.rest.now a.ends (omega (arith, c.if-rest-eq0.false)) c.segment_by.result c.segment_by.ensures in
    rw (c.wrapping_add_usize.ensures.value, c.wrapping_add_usize-2.ensures.value, c.units_of.ensures)
    (rw (c.wrapping_add_usize-3.ensures.value, c.wrapping_add_usize-4.ensures.value) (h c.size-size.result c.size-size.ensures))
