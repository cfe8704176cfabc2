-- The old pages by their numbers.
use Rattle.std.specs.Prelude.{ℕ, Bool, cond, ◌||◌, eqb}
use Rattle.page.specs.declared.Page.{Page}
use Rattle.page.specs.declared.Page.TheVariants.{Iso8859_1, Iso8859_5, Iso8859_15}

-- the number of a page is that of its part of ISO 8859
abbrev pub is_page : ℕ → Bool
is_page number = eqb number 1 || eqb number 5 || eqb number 15

abbrev pub page_of : ℕ → Page
page_of number = cond (eqb number 1) Iso8859_1 (cond (eqb number 5) Iso8859_5 Iso8859_15)
