-- What the two conversions of a page grant, and what the way back then says.
use mathlib.Core.Path.{◌≡◌, sym, ap, ◌∙◌}
use Prim.Native.Nat.{ℕ, ◌≤◌, ◌<◌}
use mathlib.Core.List.{List, [], ◌∷◌}
use lib.ListN.{length, get_or}
use borrow.Author.Tests.{le-ltb}
use Rattle.theory.specs.Reader.{cut}
use Rattle.terms.specs.Limits.{limit}
use Rattle.terms.specs.Strict.{damages, limited}
use Rattle.terms.specs.Writing.{Writes, roomed}
use Rattle.terms.specs.declared.Refusal.{Refusal}
use Rattle.std.specs.Prelude.{Result, Ok}
use Rattle.terms.proofs.AnswersWritten.{repair-count}
use Rattle.utf8.specs.Bytes.{bytes}
use Rattle.page.specs.Tables.{table_of}
use Rattle.page.specs.declared.Page.{Page}
use Rattle.page.specs.Paged.{IsPage}
use Rattle.page.specs.Lacking.{lacking, to_page_says}
use Rattle.page.proofs.NoneLacking.{had-none}
use Rattle.page.proofs.PageRoundTrip.{Granted, says-granted, granted-says, bytes_whole, bytes-had, page-bytes-page, bytes-page-bytes}
use Rattle.convert_point.specs.Room.{most_of}
use Rattle.convert_point.specs.declared.Target.TheVariants.{Bytes, Units}
use Rattle.convert_from_page.proofs.PageBytes.{three-each}
use Rattle.convert_from_page.proofs.UnitsOfPages.{are_units}
use Rattle.demand_shared.proofs.CallWrote.{count-says}
use Rattle.demand_page.specs.Rounds.{as_bytes, as_bytes_says, in_page}

module _ (table text out : List ℕ) {out' : List ℕ} {r : Result ℕ Refusal} where
  -- a text of the page was written as bytes
  pub as-bytes-count : Writes (as_bytes_says table (length out) text) (as_bytes table text) out out' r → (n : ℕ) → r ≡ Ok n
      → (n ≡ length (as_bytes table text)) × (n ≤ length out)
  as-bytes-count w = repair-count text (as_bytes table text) out out' r w

  -- bytes were written in the page
  module _ (w : Writes (to_page_says table (length out) text) (in_page table text) out out' r) (n : ℕ) (e : r ≡ Ok n) where
    told : to_page_says table (length out) text ≡ 0 ∷ n ∷ []
    told = count-says (to_page_says table (length out) text) (in_page table text) out w n e

    pub in-page-granted : Granted table (length out) text
    in-page-granted = says-granted table (length out) text told

    pub in-page-count : (n ≡ length (in_page table text)) × (n ≤ length out)
    in-page-count =
        let l : n ≡ length (in_page table text)
        = ap (λ (l : List ℕ). get_or l 1 0) (sym told ∙ granted-says table (length out) text in-page-granted) in
        (l, rw l in-page-granted.fits)

-- nothing but the lengths is in the way back's way
module _ (table : List ℕ) (p : IsPage table) (text : List ℕ) (room : ℕ) where
  pub in-page-told : ((i : ℕ) → get_or text i 0 < 256) → to_page_says table room (as_bytes table text) ≡ limited (as_bytes table text) (roomed room text)
  in-page-told small =
      rw (bytes_whole table p text small, had-none table 0 (cut bytes (as_bytes table text)) (bytes-had table p text small), page-bytes-page table p text small)

  pub as-bytes-told : damages bytes text ≡ [] → lacking table 0 (cut bytes text) ≡ []
      → as_bytes_says table room (in_page table text) ≡ limited (in_page table text) (roomed room text)
  as-bytes-told clean held = ap (λ (l : List ℕ). limited (in_page table text) (roomed room l)) (bytes-page-bytes table p text clean held)

-- three places for each byte are enough
pub three-enough : (page : Page) (text : List ℕ) → length text ≤ limit → length (as_bytes (table_of page) text) ≤ most_of Units Bytes (length text)
three-enough page text h = rw (le-ltb limit (length text) h) (three-each (table_of page) (are_units page) text)
