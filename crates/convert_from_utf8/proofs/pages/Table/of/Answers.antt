-- The three pages are pages, and keep the bytes below 0x80.
use Rattle.page.proofs.ThreePages.{is_page_lem, page_keeps}
use Rattle.convert_from_utf8.proofs.pages.Table.of.Goals as goal

pub invariant_of-result-clause-is_page : goal.invariant_of-result-clause-is_page
invariant_of-result-clause-is_page c = rw c.numbers.ensures (is_page_lem c.args.page)

pub invariant_of-result-clause-keeps : goal.invariant_of-result-clause-keeps
invariant_of-result-clause-keeps c = rw c.numbers.ensures (page_keeps c.args.page)
