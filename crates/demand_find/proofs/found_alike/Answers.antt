-- `found_alike` meets its contract: both searches tell the same, and what is told loses nothing.
use mathlib.Core.Path.{◌≡◌, sym, ◌∙◌}
use Rattle.find.proofs.ToldBack.{told_match_lem}
use borrow.Author.Rules.{rules}
use Rattle.demand_find.proofs.found_alike.Goals as goal

pub returns : goal.returns
returns c =
    let same : c.find.result ≡ c.find_plain.result = told_match_lem _ _ (c.find.ensures ∙ sym c.find_plain.ensures) in
    search rules
