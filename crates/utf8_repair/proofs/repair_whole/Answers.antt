-- Refusal 3, or the text is copied.
use mathlib.Core.Path.{refl}
use lib.ListN.{length}
use Rattle.copy.proofs.Copied.{copied_whole}
use Rattle.terms.proofs.AnswersWritten.{roomed-short, roomed-done}
use Rattle.utf8_repair.proofs.repair_whole.Goals as goal

pub returns-then-out-bytes : goal.returns-then-out-bytes
returns-then-out-bytes c =
    let a = c.args in
    roomed-short a.text.now a.out.now (length a.text.now) refl c.if-out-bytes.true

pub returns : goal.returns
returns c =
    let a = c.args in
    roomed-done a.text.now a.out.now (length a.text.now) refl c.if-out-bytes.false _
    (copied_whole a.text.now a.out.now c.copy.new.out c.if-out-bytes.false c.copy.ensures)
