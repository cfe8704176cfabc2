-- `form::places` meets its contract: without places the conversion refuses, with the need, or there is nothing to write.
use mathlib.Core.Path.{sym, ap, ◌∙◌}
use native.Mathlib.Omega.{arith}
use Rattle.terms.specs.Form.{converted}
use Rattle.terms.specs.Told.{told_written}
use Rattle.terms.proofs.AnswersWritten.{repair-count}
use Rattle.utf8.specs.Scalar.{utf8}
use Rattle.utf16.specs.Scalar.{utf16}
use Rattle.decoder_shared.proofs.FormsJoined.{needed_is}
use Rattle.decoder_from_utf16.proofs.form.places.Goals as goal

pub returns-in-Ok : goal.returns-in-Ok
returns-in-Ok c =
    let text = c.args.text.now in
    let n = repair-count text (converted utf16 utf8 text) _ _ c.repair_to_bytes.result c.repair_to_bytes.ensures _ c.in-Ok.is in
    omega (arith, n.0, n.1)

pub returns-in-Err : goal.returns-in-Err
returns-in-Err c =
    let text = c.args.text.now in
    c.first_value.ensures
    ∙ (needed_is text (converted utf16 utf8 text) 0 c.requires c.in-Err.why
    (sym (ap told_written c.in-Err.is) ∙ c.repair_to_bytes.ensures.answer)).0
