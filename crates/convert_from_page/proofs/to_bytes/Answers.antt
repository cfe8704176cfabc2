-- Over the limit it is refused; else the text of the page's table is fitted in.
use native.Mathlib.Omega.{arith}
use Rattle.terms.specs.Form.{converted}
use Rattle.terms.proofs.AnswersWritten.{repair-over, repair-roomed}
use Rattle.utf8.specs.Scalar.{utf8}
use Rattle.page.specs.Tables.{table_of}
use Rattle.page.specs.Paged.{paged}
use Rattle.convert_from_page.proofs.to_bytes.Goals as goal

pub returns-then-text-gt-LIMIT : goal.returns-then-text-gt-LIMIT
returns-then-text-gt-LIMIT c =
    let a = c.args in
    repair-over a.text.now (converted (paged (table_of a.page)) utf8 a.text.now) a.out.now (omega (arith, c.if-text-gt-LIMIT.true))

pub returns : goal.returns
returns c =
    let a = c.args in
    repair-roomed a.text.now (converted (paged (table_of a.page)) utf8 a.text.now) a.out.now c.fit.new.out c.fit.result (omega (arith, c.if-text-gt-LIMIT.false))
    (rw c.of.ensures at c.fit.ensures)
