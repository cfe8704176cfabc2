-- THE RULE OF THE TABLE: a byte has a class exactly if it lies in the class's ranges.
use mathlib.Core.Path.{◌≡◌, refl, sym, ◌∙◌}
use mathlib.Core.Logic.{◌↔◌}
use Prim.Native.Nat.{ℕ, ◌<◌}
use mathlib.Core.Bool.{Bool, true, false, cond, not}
use mathlib.Core.List.{List, []}
use lib.ListN.{length, get_or}
use lib.Dec.{eqb}
use borrow.Author.Tests.{eqb-true, eq-eqb, lt-ltb}
use Rattle.theory.specs.Table.{Range, among}
use Rattle.theory.proofs.EveryEntry.{every_from, at_entry}
use Rattle.utf8.specs.Classes.{classes, in_class, unclassed, class_in}

-- a table that gives each byte the class in whose ranges it lies
abbrev pub Ruled : List ℕ → Type 0
Ruled table = (b c : ℕ) → b < 256 → c < unclassed → in_class c b ≡ eqb (class_in table b) c

-- in both directions
pub class_rule : (table : List ℕ) → Ruled table → (b c : ℕ) → b < 256 → c < unclassed → (class_in table b ≡ c) ↔ (in_class c b ≡ true)
class_rule table r b c h k =
    (λ e. r b c h k ∙ eq-eqb (class_in table b) c e, λ e. eqb-true (class_in table b) c (sym (r b c h k) ∙ e))

-- ---- from one test of all entries

abbrev same : Bool → Bool → Bool
same a b = cond a b (not b)

same_is : (a b : Bool) → same a b ≡ true → a ≡ b
same_is true true e = refl
same_is true false e = sym e
same_is false true e = e
same_is false false e = refl

-- an entry is the number of the class whose ranges have its place, and of no other
abbrev pub right_at : ℕ → ℕ → Bool
right_at b x = every_from (λ (c : ℕ) (rs : List Range). same (among rs b) (eqb x c)) 0 classes

pub by_test : (table : List ℕ) → length table ≡ 256 → every_from right_at 0 table ≡ true → Ruled table
unfolding classes
by_test table n e b c h k =
    let right = at_entry right_at table e b 0 (rw n h) in
    rw (lt-ltb b 256 h)
    (same_is (in_class c b) (eqb (get_or table b 0) c)
    (at_entry (λ (i : ℕ) (rs : List Range). same (among rs b) (eqb (get_or table b 0) i)) classes right c [] k))
