-- A page is a form that is read faithfully, and written as far as it has the numbers.
use mathlib.Core.Path.{◌≡◌, refl, ap, ◌∙◌}
use Prim.Native.Nat.{ℕ, suc, ◌<◌}
use mathlib.Core.Bool.{true≢false}
use mathlib.Core.List.{List, [], ◌∷◌}
use lib.ListN.{length, get_or}
use lib.Dec.{ltb}
use borrow.Author.Tests.{ltb-true, lt-ltb}
use native.Mathlib.Omega.{arith}
use Rattle.theory.specs.Reader.{cut}
use Rattle.theory.specs.Table.{whole, is_damage}
use Rattle.theory.proofs.Cases.{split}
use Rattle.theory.proofs.Divisions.{Division, cut-nil, cut-cons}
use Rattle.terms.specs.Strict.{damages}
use Rattle.terms.proofs.FaithfulForms.{Reads, Spells}
use Rattle.terms.proofs.ConvertsBack.{AllWhole, whole-none}
use Rattle.page.specs.Paged.{place_of, has, single, paged, IsPage}
use Rattle.page.proofs.PlaceInTable.{has-stands, only-place}

single_division : Division single
unfolding single
single_division = record { fits = λ x xs. omega arith; stable = λ x xs ys s. refl }

-- what is whole is a byte
whole-byte : (x : ℕ) (xs : List ℕ) → (single x xs).tag ≡ whole → x < 256
unfolding single
whole-byte x xs w = split (ltb x 256) (λ t. ltb-true x 256 t) (λ t. absurd (true≢false (ap is_damage (rw t at w))))

module _ (table : List ℕ) (p : IsPage table) where
  pub page-reads : Reads (paged table)
  unfolding single
  page-reads = record {
    division = single_division;
    scalar = λ x xs w. p.scalar x (whole-byte x xs w);
    again = λ x xs w. ap (λ (b : ℕ). b ∷ []) (only-place table p x (whole-byte x xs w));
  }

  pub page-spells : Spells (has table) (paged table)
  unfolding single
  page-spells = record {
    back = λ c h. has-stands c table h;
    firm = λ c h ys.
        let l : place_of c table < length table = ltb-true (place_of c table) (length table) h in
        cut-cons single (place_of c table) ys ∙ rw (lt-ltb (place_of c table) 256 (omega (arith, p.long)));
  }

-- a text of bytes has no damage as a page text
pub page_whole : (text : List ℕ) → ((i : ℕ) → get_or text i 0 < 256) → damages single text ≡ []
unfolding single
page_whole text h = whole-none 0 (cut single text) (all text h)
  where
    all : (xs : List ℕ) → ((i : ℕ) → get_or xs i 0 < 256) → AllWhole (cut single xs)
    all [] k = rw cut-nil tt
    all (x ∷ xs) k = rw (cut-cons single x xs) (rw (lt-ltb x 256 (k 0)), all xs (λ i. k (suc i)))
