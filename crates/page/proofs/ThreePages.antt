-- The three pages are pages, by one test each of all their numbers.
use mathlib.Core.Path.{◌≡◌, refl, sym, ap, ◌∙◌}
use Prim.Native.Nat.{ℕ, ◌<◌}
use mathlib.Core.Bool.{Bool, true, cond, ◌&&◌}
use mathlib.Core.List.{List}
use lib.ListN.{length, get_or}
use lib.Dec.{ltb, eqb}
use borrow.Author.Tests.{eqb-true, lt-ltb}
use native.Mathlib.Omega.{arith}
use Rattle.theory.proofs.Cases.{both}
use Rattle.theory.proofs.EveryEntry.{every_from, at_entry}
use Rattle.terms.specs.Form.{is_scalar}
use Rattle.page.specs.Tables.{iso8859_1, iso8859_5, iso8859_15, table_of}
use Rattle.page.specs.Paged.{place_of, IsPage, Keeps}
use Rattle.page.specs.declared.Page.{Page}
use Rattle.page.specs.declared.Page.TheVariants.{Iso8859_1, Iso8859_5, Iso8859_15}

-- an entry is a scalar value, stands nowhere before, and is its own place below 0x80
abbrev first_at : List ℕ → ℕ → ℕ → Bool
first_at table b n = eqb (place_of n table) b

abbrev kept_at : ℕ → ℕ → Bool
kept_at b n = cond (ltb b 0x80) (eqb n b) true

abbrev right_at : List ℕ → ℕ → ℕ → Bool
right_at table b n = (is_scalar n && first_at table b n) && kept_at b n

module _ (table : List ℕ) (long : length table ≡ 256) (test : every_from (right_at table) 0 table ≡ true) where
  at_byte : (b : ℕ) → b < 256 → (is_scalar (get_or table b 0) && first_at table b (get_or table b 0) ≡ true) × (kept_at b (get_or table b 0) ≡ true)
  at_byte b h = both (is_scalar (get_or table b 0) && first_at table b (get_or table b 0)) (kept_at b (get_or table b 0))
      (at_entry (right_at table) table test b 0 (omega (arith, long)))

  place : (b : ℕ) → b < 256 → place_of (get_or table b 0) table ≡ b
  place b h = eqb-true (place_of (get_or table b 0) table) b (both (is_scalar (get_or table b 0)) (first_at table b (get_or table b 0)) (at_byte b h).0).1

  by_test : IsPage table
  by_test = record {
    long = long;
    scalar = λ b h. (both (is_scalar (get_or table b 0)) (first_at table b (get_or table b 0)) (at_byte b h).0).0;
    apart = λ a b h k e. sym (place a h) ∙ ap (λ (n : ℕ). place_of n table) e ∙ place b k;
  }

  by-test-keeps : Keeps table
  by-test-keeps b h = let e = (at_byte b (omega arith)).1 in eqb-true (get_or table b 0) b (rw (lt-ltb b 0x80 h) at e)

-- EACH IS A PAGE
pub is_page_lem : (page : Page) → IsPage (table_of page)
unfolding iso8859_1 iso8859_5 iso8859_15
is_page_lem Iso8859_1 = by_test iso8859_1 refl refl
is_page_lem Iso8859_5 = by_test iso8859_5 refl refl
is_page_lem Iso8859_15 = by_test iso8859_15 refl refl

-- and keeps the bytes below 0x80
pub page_keeps : (page : Page) → Keeps (table_of page)
unfolding iso8859_1 iso8859_5 iso8859_15
page_keeps Iso8859_1 = by-test-keeps iso8859_1 refl refl
page_keeps Iso8859_5 = by-test-keeps iso8859_5 refl refl
page_keeps Iso8859_15 = by-test-keeps iso8859_15 refl refl
