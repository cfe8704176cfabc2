-- `segment_by` meets its contract: what the class of the first byte begins says all.
use mathlib.Core.Path.{sym, ◌∙◌}
use native.Mathlib.Omega.{arith}
use Rattle.terms.proofs.WalkBySegments.{says_nothing}
use Rattle.utf8.specs.Classes.{by_classes}
use Rattle.utf8.proofs.LoopTells.{class-alone, class-begun}
use Rattle.utf8.proofs.classes.segment_by.Goals as goal

pub returns-then-text-eq0 : goal.returns-then-text-eq0
returns-then-text-eq0 c = says_nothing (by_classes c.args.classes.now) c.args.text.now c.if-text-eq0.true

pub returns-in-Alone : goal.returns-in-Alone
returns-in-Alone c =
    let a = c.args in
    class-alone a.classes.now a.text.now (omega arith) c.lead_of.result (rw c.class_in-class.ensures at c.lead_of.ensures) _ c.in-Alone.is

pub returns-in-Begins : goal.returns-in-Begins
returns-in-Begins c =
    let a = c.args in
    (rw c.class_in-class.ensures at c.follow.ensures)
    ∙ sym (class-begun a.classes.now a.text.now (omega arith) c.lead_of.result (rw c.class_in-class.ensures at c.lead_of.ensures) _ c.in-Begins.is)
