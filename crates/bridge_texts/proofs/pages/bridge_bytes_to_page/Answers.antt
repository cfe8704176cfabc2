-- What was written is told, where the number is that of a page and there is room to tell it.
use mathlib.Core.Path.{sym, ◌∙◌}
use Rattle.bridge_numbers.specs.Telling.{roomy}
use Rattle.bridge_numbers.proofs.WrapperTells.{unwritten, wrote}
use Rattle.bridge_texts.proofs.PageAsked.{unasked, asked}
use Rattle.bridge_texts.proofs.pages.bridge_bytes_to_page.Goals as goal

pub returns-then-not-is_page : goal.returns-then-not-is_page
returns-then-not-is_page c =
    unasked (roomy c.args.says.now) (sym c.is_page.ensures ∙ c.if-not-is_page.true)

pub returns-then-says-lt-ROOM : goal.returns-then-says-lt-ROOM
returns-then-says-lt-ROOM c =
    asked (sym c.is_page.ensures ∙ c.if-not-is_page.false) (unwritten c.if-says-lt-ROOM.true)

pub returns : goal.returns
returns c =
    asked (sym c.is_page.ensures ∙ c.if-not-is_page.false)
    (wrote c.if-says-lt-ROOM.false (rw c.page_of.ensures at c.to_page-written.ensures) c.say_written.ensures c.tell.ensures)
