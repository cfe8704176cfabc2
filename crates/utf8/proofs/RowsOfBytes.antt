-- The rows of the byte table: which of them a byte begins, and the laws of a division that follow for byte texts.
use mathlib.Core.Path.{◌≡◌, refl}
use Prim.Native.Nat.{ℕ, zero, suc, ◌≤◌, ◌<◌}
use mathlib.Core.Bool.{true, false}
use mathlib.Core.List.{List, ◌∷◌, ◌++◌}
use mathlib.Core.Option.{some, none}
use lib.ListN.{take, drop}
use native.Mathlib.Omega.{arith}
use Rattle.theory.specs.Table.{Row, ended, damage, is_damage, cause_of, wanted_behind, within}
use Rattle.theory.specs.Reader.{parts}
use Rattle.theory.specs.Sequence.{Reads}
use Rattle.theory.proofs.Cases.{split, All}
use Rattle.theory.proofs.Divisions.{Division, Holds}
use Rattle.theory.proofs.TableDivides.{begun-row, begun-none, table-division, table-holds, table-top, table-damage, table-whole, table-ended, settled-unended}
use Rattle.theory.proofs.OneDivision.{Sound, is_sound}
use Rattle.theory.proofs.TableReads.{table-reads}
use Rattle.terms.specs.Limits.{most_pending, most_damaged}
use Rattle.utf8.specs.Bytes.{next, rows, lone_byte, bytes}

-- a byte begins row k
pub at_row : (k : ℕ) (w : Row) → rows ≡ take k rows ++ w ∷ drop (suc k) rows → (x : ℕ)
    → All (λ v. v.lead.high < x) (take k rows) × (w.lead.low ≤ x) × (x ≤ w.lead.high) → wanted_behind rows x ≡ some w.later
at_row k w e x m = rw e (begun-row (take k rows) w (drop (suc k) rows) x m.0 m.1 m.2)

-- a byte lies between the rows before k and the others
pub at_none : (k : ℕ) → rows ≡ take k rows ++ drop k rows → (x : ℕ)
    → All (λ v. v.lead.high < x) (take k rows) × All (λ v. x < v.lead.low) (drop k rows) → wanted_behind rows x ≡ none
at_none k e x m = rw e (begun-none (take k rows) (drop k rows) x m.0 m.1)

-- ---- byte texts are a division; at most 3 bytes are held back, and damage has 1 to 3

pub bytes_division : Division bytes
unfolding bytes
bytes_division = table-division rows lone_byte

pub bytes-hold : Holds bytes most_pending
unfolding bytes rows
bytes-hold = table-holds rows lone_byte

pub bytes-top : (x : ℕ) (xs : List ℕ) → (bytes x xs).more ≤ 3
unfolding bytes rows
bytes-top = table-top rows lone_byte

pub damage_short : (x : ℕ) (xs : List ℕ) → is_damage (bytes x xs).tag ≡ true → suc (bytes x xs).more ≤ most_damaged
unfolding bytes rows
damage_short = table-damage rows lone_byte (omega arith)

pub whole-sure : (x : ℕ) (xs : List ℕ) → is_damage (bytes x xs).tag ≡ false → (bytes x xs).sure ≡ true
unfolding bytes
whole-sure = table-whole rows lone_byte

-- CAUSE 4 COMES ONLY FROM FINISH: what is held back is damage that the end of the text stops, and what is settled is not
pub held-ended : (x : ℕ) (xs : List ℕ) → (bytes x xs).sure ≡ false → (bytes x xs).tag ≡ damage ended
unfolding bytes
held-ended = table-ended rows lone_byte

pub settled-by-others : (text : List ℕ) → All (λ s. cause_of s.tag < ended) (parts bytes text).done
unfolding bytes
settled-by-others = settled-unended rows lone_byte (λ x. split (within next x) (λ e. rw e (omega arith)) (λ e. rw e (omega arith)))

-- ---- THE PAPER'S WORDS hold of this reader

pub rows-sound : Sound zero rows
unfolding rows
rows-sound = is_sound zero rows refl

pub bytes_read : Reads rows lone_byte bytes
unfolding bytes
bytes_read = table-reads rows lone_byte rows-sound
