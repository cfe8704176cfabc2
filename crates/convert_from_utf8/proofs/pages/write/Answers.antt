-- The first code point that is lacking is refused; where there is none the answer is the writer's.
use mathlib.Core.Path.{◌≡◌}
use mathlib.Core.List.{[]}
use lib.ListN.{length}
use Rattle.theory.specs.Reader.{cut}
use Rattle.terms.specs.Form.{converted}
use Rattle.terms.specs.Writing.{roomed}
use Rattle.terms.specs.declared.Refusal.TheVariants.{NotInPage}
use Rattle.terms.proofs.AnswersWritten.{refuses}
use Rattle.utf8.specs.Bytes.{bytes}
use Rattle.utf8.specs.Scalar.{utf8}
use Rattle.page.specs.Tables.{table_of}
use Rattle.page.specs.Paged.{paged}
use Rattle.page.specs.Lacking.{lacking, held_up_to, held_by}
use Rattle.convert_from_utf8.proofs.HeldWalk.{held-short, held_all}
use Rattle.convert_from_utf8.proofs.pages.write.Goals.{After-held-at, Else-at-text}
use Rattle.convert_from_utf8.proofs.pages.write.Goals as goal

-- how far the page has the text
reached : (c : After-held-at)
    → let a = c.args in
    c.held-at.result ≡ held_up_to (table_of a.page) a.text.now
reached c = rw c.of-table.ensures at c.held-at.ensures

-- it lacks nothing
nothing : (c : Else-at-text)
    → let a = c.args in
    (reached : c.held-at.result ≡ held_up_to (table_of a.page) a.text.now)
    → lacking (table_of a.page) 0 (cut bytes a.text.now) ≡ []
nothing c reached =
    let a = c.args in
    held_all (table_of a.page) a.text.now c.held-at.result reached c.if-at-text.false

pub held-at-requires : goal.held-at-requires
held-at-requires c =
    record { text_value = c.requires }

pub returns-then-at-text : goal.returns-then-at-text
returns-then-at-text c =
    let a = c.args in
    let text = a.text.now in
    let table = table_of a.page in
    let form = converted utf8 (paged table) text in
    let granted = roomed (length a.out.now) form in
    refuses (held_by (lacking table 0 (cut bytes text)) granted) form a.out.now (NotInPage c.held-at.result)
    (held-short table text c.held-at.result (reached (goal.at.returns-then-at-text c).After-held-at) c.if-at-text.true granted)

pub write_held-requires : goal.write_held-requires
write_held-requires c =
    let r = reached (goal.at.write_held-requires c).After-held-at in
    rw c.of-table.ensures record {
      fits = (c.requires, nothing (goal.at.write_held-requires c).Else-at-text r);
    }

pub returns : goal.returns
returns c =
    let r = reached (goal.at.returns c).After-held-at in
    rw (nothing (goal.at.returns c).Else-at-text r) (rw c.of-table.ensures at c.write_held.ensures)
