-- The numbers of the three pages are units, by one test each.
use mathlib.Core.Path.{◌≡◌, refl}
use Prim.Native.Nat.{ℕ}
use mathlib.Core.Bool.{Bool, true}
use mathlib.Core.List.{List}
use lib.ListN.{length, get_or}
use lib.Dec.{ltb}
use borrow.Author.Tests.{ltb-true}
use native.Mathlib.Omega.{arith}
use Rattle.theory.proofs.EveryEntry.{every_from, at_entry}
use Rattle.page.specs.Tables.{iso8859_1, iso8859_5, iso8859_15, table_of}
use Rattle.page.specs.declared.Page.{Page}
use Rattle.page.specs.declared.Page.TheVariants.{Iso8859_1, Iso8859_5, Iso8859_15}
use Rattle.convert_from_page.specs.Inside.Units.{AreUnits}

abbrev is_unit : ℕ → ℕ → Bool
is_unit b n = ltb n 0x10000

by_test : (table : List ℕ) → length table ≡ 256 → every_from is_unit 0 table ≡ true → AreUnits table
by_test table long test b h = ltb-true (get_or table b 0) 0x10000 (at_entry is_unit table test b 0 (omega (arith, long)))

pub are_units : (page : Page) → AreUnits (table_of page)
unfolding iso8859_1 iso8859_5 iso8859_15
are_units Iso8859_1 = by_test iso8859_1 refl refl
are_units Iso8859_5 = by_test iso8859_5 refl refl
are_units Iso8859_15 = by_test iso8859_15 refl refl
