-- A SEGMENT OF UNITS IS READ WITH EXACTLY ONE CAUSE, that of the paper's sentence: 0 it is whole; 1 a unit of DC00..DFFF; 2 never; 3 a
-- first half stopped by another unit; 4 a first half that ends the text.
use mathlib.Core.Path.{◌≡◌, refl, sym, ◌∙◌}
use mathlib.Core.Logic.{inl}
use Prim.Native.Nat.{ℕ, ◌<◌}
use mathlib.Core.Bool.{true, true≢false}
use mathlib.Core.List.{List, [], ◌∷◌}
use mathlib.Core.Option.{none, some}
use lib.ListN.{take, drop}
use native.Mathlib.Omega.{arith}
use Rattle.theory.specs.Table.{◌to◌, within, among, Row, stray, wanted_behind}
use Rattle.theory.specs.Sequence.{Caused}
use Rattle.theory.proofs.Cases.{split, under}
use Rattle.theory.proofs.TableDivides.{in_range, in_yes, begun-row, begun-none}
use Rattle.theory.proofs.OneDivision.{none_no_some}
use Rattle.theory.proofs.CausesTold.{causes-told}
use Rattle.utf16.specs.Units.{rows, lone_unit, units, strays}
use Rattle.utf16.proofs.RowsOfUnits.{rows-sound}

of_strays : (x : ℕ) → among strays x ≡ true → (wanted_behind rows x ≡ none) × (lone_unit x ≡ stray)
unfolding rows
of_strays x e = split (within (0xDC00 to 0xDFFF) x)
    (λ i. let r = in_range (0xDC00 to 0xDFFF) x i in (begun-none (take 2 rows) (drop 2 rows) x (omega arith) (omega arith), refl))
    (λ i. absurd (true≢false (sym (rw i at e))))

-- any other unit begins a row
no_others : (x : ℕ) → x < 0x10000 → wanted_behind rows x ≡ none → among strays x ≡ true
unfolding rows
no_others x h e =
    under x 0xD800 (λ a. led (record { lead = 0 to 0xD7FF; later = [] }) (begun-row [] _ (drop 1 rows) x tt (omega arith) (omega arith))) (λ b.
    under x 0xDC00 (λ a. led (record { lead = 0xD800 to 0xDBFF; later = 0xDC00 to 0xDFFF ∷ [] }) (begun-row (take 1 rows) _ (drop 2 rows) x (omega arith) (omega arith) (omega arith))) (λ d.
    under x 0xE000 (λ a. rw (in_yes (0xDC00 to 0xDFFF) x (omega arith) (omega arith))) (λ f.
    led (record { lead = 0xE000 to 0xFFFF; later = [] }) (begun-row (take 2 rows) _ [] x (omega arith) (omega arith) (omega arith)))))
  where
    led : (w : Row) → wanted_behind rows x ≡ some w.later → among strays x ≡ true
    led w q = absurd (none_no_some w.later (sym e ∙ q))

pub units_caused : (x : ℕ) (xs : List ℕ) → x < 0x10000 → Caused rows strays [] units x xs
unfolding units
units_caused x xs h =
    causes-told rows strays [] lone_unit rows-sound x xs
    (record { of_strays = of_strays x; of_foreigners = λ e. absurd (true≢false (sym e)); no_others = λ e. inl (no_others x h e) })
