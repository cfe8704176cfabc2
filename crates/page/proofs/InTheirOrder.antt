-- The refusals of a conversion into a page, in their order: over the limit, damage, a code point that the page lacks, too few places.
use mathlib.Core.Path.{◌≡◌}
use Prim.Native.Nat.{ℕ, ◌≤◌, ◌<◌}
use mathlib.Core.List.{List, [], ◌∷◌}
use lib.ListN.{length}
use borrow.Author.Tests.{lt-ltb, le-ltb}
use Rattle.theory.specs.Reader.{cut}
use Rattle.theory.specs.Table.{Kind}
use Rattle.theory.specs.Tally.{Entry}
use Rattle.terms.specs.Form.{converted}
use Rattle.terms.specs.Limits.{limit}
use Rattle.terms.specs.Strict.{damages, damaged}
use Rattle.utf8.specs.Bytes.{bytes}
use Rattle.utf8.specs.Scalar.{utf8}
use Rattle.page.specs.Paged.{paged}
use Rattle.page.specs.Lacking.{lacking, to_page_says}

module _ (table : List ℕ) (room : ℕ) (text : List ℕ) where
  pub first_two : limit < length text → to_page_says table room text ≡ 2 ∷ []
  first_two h = rw (lt-ltb limit (length text) h)

  module _ (h : length text ≤ limit) where
    -- whatever the page lacks, wherever it stands
    pub then_one : (d : Entry Kind) (ds : List (Entry Kind)) → damages bytes text ≡ d ∷ ds → to_page_says table room text ≡ damaged d
    then_one d ds e = rw (le-ltb limit (length text) h, e)

    -- whatever the room is
    pub then-ten : (offset : ℕ) (offsets : List ℕ) → damages bytes text ≡ [] → lacking table 0 (cut bytes text) ≡ offset ∷ offsets
        → to_page_says table room text ≡ 10 ∷ offset ∷ []
    then-ten offset offsets clean e = rw (le-ltb limit (length text) h, clean, e)

    pub then-three : damages bytes text ≡ [] → lacking table 0 (cut bytes text) ≡ [] → room < length (converted utf8 (paged table) text)
        → to_page_says table room text ≡ 3 ∷ length (converted utf8 (paged table) text) ∷ []
    then-three clean held s = rw (le-ltb limit (length text) h, clean, held, lt-ltb room (length (converted utf8 (paged table) text)) s)
