-- A SEGMENT OF BYTES IS READ WITH EXACTLY ONE CAUSE, that of the paper's sentence: 0 it is whole; 1 a lone 80..BF; 2 a byte of C0, C1,
-- F5..FF; 3 a begun sequence stopped by another byte; 4 stopped by the end of the text.
use mathlib.Core.Path.{◌≡◌, refl, sym}
use mathlib.Core.Logic.{◌⊎◌, inl, inr}
use Prim.Native.Nat.{ℕ, ◌<◌}
use mathlib.Core.Bool.{Bool, true, false, ◌||◌, true≢false}
use mathlib.Core.List.{List}
use mathlib.Core.Option.{Option, none, some}
use native.Mathlib.Omega.{arith}
use Rattle.theory.specs.Table.{Range, ◌to◌, within, among, stray, foreign, wanted_behind}
use Rattle.theory.specs.Sequence.{Caused}
use Rattle.theory.proofs.Cases.{split}
use Rattle.theory.proofs.EveryEntry.{at_entry}
use Rattle.theory.proofs.TableDivides.{in_range, in_over}
use Rattle.theory.proofs.CausesTold.{causes-told}
use Rattle.utf8.specs.Bytes.{next, rows, lone_byte, bytes, strays, foreigners}
use Rattle.utf8.specs.Classes.{classes}
use Rattle.utf8.proofs.ClassesRead.{table}
use Rattle.utf8.proofs.RowsOfBytes.{at_none, rows-sound}

either : (a b : Bool) → a || b ≡ true → (a ≡ true) ⊎ (b ≡ true)
either true b e = inl refl
either false b e = inr e

of_strays : (x : ℕ) → among strays x ≡ true → (wanted_behind rows x ≡ none) × (lone_byte x ≡ stray)
unfolding rows
of_strays x e = split (within next x)
    (λ i. let r = in_range next x i in (at_none 1 refl x (omega arith), rw i))
    (λ i. absurd (true≢false (sym (rw i at e))))

of_foreigners : (x : ℕ) → among foreigners x ≡ true → (wanted_behind rows x ≡ none) × (lone_byte x ≡ foreign)
unfolding rows
of_foreigners x e = split (within (0xC0 to 0xC1) x)
    (λ i. let r = in_range (0xC0 to 0xC1) x i in (at_none 1 refl x (omega arith), rw (in_over next x (omega arith))))
    (λ i. split (within (0xF5 to 0xFF) x)
    (λ j. let r = in_range (0xF5 to 0xFF) x j in (at_none 9 refl x (omega arith), rw (in_over next x (omega arith))))
    (λ j. absurd (true≢false (sym (rw (i, j) at e)))))

-- one test for all bytes: one that begins no row is of these
abbrev begins : Option (List Range) → Bool
begins none = false
begins (some rs) = true

abbrev named_at : ℕ → ℕ → Bool
named_at b entry = begins (wanted_behind rows b) || (among strays b || among foreigners b)

no_others : (x : ℕ) → x < 256 → wanted_behind rows x ≡ none → (among strays x ≡ true) ⊎ (among foreigners x ≡ true)
unfolding rows classes table
no_others x h e = either (among strays x) (among foreigners x) (rw e at (at_entry named_at table refl x 0 h))

pub bytes_caused : (x : ℕ) (xs : List ℕ) → x < 256 → Caused rows strays foreigners bytes x xs
unfolding bytes
bytes_caused x xs h =
    causes-told rows strays foreigners lone_byte rows-sound x xs
    (record { of_strays = of_strays x; of_foreigners = of_foreigners x; no_others = no_others x h })
