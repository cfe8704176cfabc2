-- A table with the rule reads what the well-formed byte sequences of table 3-7 say; and the table of the code has the rule.
use mathlib.Core.Path.{◌≡◌, refl, sym, ap, ◌∙◌}
use mathlib.Core.Logic.{◌⊎◌, inl, inr, ⊎_elim, ◌↔◌}
use Prim.Native.Nat.{ℕ, zero, suc, ◌≤◌, ◌<◌}
use mathlib.Core.Bool.{true, false, cond}
use mathlib.Core.List.{List, [], ◌∷◌, map}
use mathlib.Core.Option.{none, some}
use borrow.Author.Tests.{eqb-true, eqb-false, le-ltb}
use native.Mathlib.Omega.{arith}
use Rattle.theory.specs.Table.{Range, ◌to◌, within, among, want, wanted_behind}
use Rattle.theory.proofs.Cases.{under}
use Rattle.theory.proofs.TableDivides.{in_yes, in_under, in_over}
use Rattle.std.specs.Prelude.{Option}
use Rattle.terms.specs.Form.{first_point, point_says}
use Rattle.terms.specs.declared.Point.{Point}
use Rattle.terms.specs.Told.{first_says}
use Rattle.utf8.specs.Bytes.{row, next, rows, bytes}
use Rattle.utf8.specs.Classes.{classes, in_class, unclassed, class_in, any_later, rows_of_classes, by_classes}
use Rattle.utf8.specs.Scalar.{number, sequence, utf8, utf8_by}
use Rattle.utf8.proofs.ClassRule.{Ruled, class_rule, by_test}
use Rattle.utf8.proofs.ClassesWanted.{not-among, none_of}
use Rattle.utf8.proofs.RowsOfBytes.{at_row, at_none}

-- ---- a number and a class's ranges

among_first : (r : Range) (rs : List Range) (x : ℕ) → r.low ≤ x → x ≤ r.high → among (r ∷ rs) x ≡ true
among_first r rs x l h = rw (in_yes r x l h)

-- a range of later bytes has no other
range_outside : (r : Range) (x : ℕ) → 0x80 ≤ r.low → r.high ≤ 0xBF → (x < 0x80) ⊎ (0xBF < x) → within r x ≡ false
range_outside r x l h o = ⊎_elim (λ a. in_under r x (omega arith)) (λ a. in_over r x (omega arith)) o

outside : (r : Range) (x : ℕ) → 0x80 ≤ r.low → r.high ≤ 0xBF → (x < 0x80) ⊎ (0xBF < x) → among (r ∷ []) x ≡ false
outside r x l h o = rw (range_outside r x l h o)

among_second : (r s : Range) (x : ℕ) → r.high < x → s.low ≤ x → x ≤ s.high → among (r ∷ s ∷ []) x ≡ true
among_second r s x o l h = rw (in_over r x o, in_yes s x l h)

module _ (table : List ℕ) (rule : Ruled table) where
  abbrev class : ℕ → ℕ
  class = class_in table

  -- ---- the class of a byte

  has : (b c : ℕ) → b < 256 → c < unclassed → in_class c b ≡ true → class b ≡ c
  has b c h k e = eqb-true (class b) c (sym (rule b c h k) ∙ e)

  lacks : (b c : ℕ) → b < 256 → c < unclassed → in_class c b ≡ false → class b ≡ c → ⊥
  lacks b c h k e = eqb-false (class b) c (sym (rule b c h k) ∙ e)

  no_byte : (b : ℕ) → 256 ≤ b → class b ≡ unclassed
  no_byte b h = rw (le-ltb b 256 h)

  -- ---- later bytes

  -- a range of later bytes, and the same one in classes
  record Alike (r s : Range) : Type 0 where
    from_one : 1 ≤ r.low
    to-three : r.high ≤ 3
    from_first : 0x80 ≤ s.low
    to_last : s.high ≤ 0xBF
    in_one : (b : ℕ) → 0x80 ≤ b → b ≤ 0x8F → within s b ≡ within r 1
    in_two : (b : ℕ) → 0x90 ≤ b → b ≤ 0x9F → within s b ≡ within r 2
    in_three : (b : ℕ) → 0xA0 ≤ b → b ≤ 0xBF → within s b ≡ within r 3

  -- a byte that is no later one has none of their classes
  no_later : (b : ℕ) → (b < 0x80) ⊎ (0xBF < b) → (class b < 1) ⊎ (3 < class b)
  unfolding classes
  no_later b o = under b 256
      (λ h. none_of (class b) (lacks b 1 h (omega arith) (outside (0x80 to 0x8F) b (omega arith) (omega arith) o))
      (lacks b 2 h (omega arith) (outside (0x90 to 0x9F) b (omega arith) (omega arith) o))
      (lacks b 3 h (omega arith) (outside (0xA0 to 0xBF) b (omega arith) (omega arith) o)))
      (λ h. inr (omega (arith, no_byte b h)))

  alike_at : (r s : Range) → Alike r s → (b : ℕ) → within r (class b) ≡ within s b
  unfolding classes
  alike_at r s a b =
      under b 0x80 (λ h. neither (inl h)) (λ l.
      under b 0x90 (λ h. ap (within r) (has b 1 (omega arith) (omega arith) (among_first (0x80 to 0x8F) [] b l (omega arith))) ∙ sym (a.in_one b l (omega arith))) (λ m.
      under b 0xA0 (λ h. ap (within r) (has b 2 (omega arith) (omega arith) (among_first (0x90 to 0x9F) [] b m (omega arith))) ∙ sym (a.in_two b m (omega arith))) (λ n.
      under b 0xC0 (λ h. ap (within r) (has b 3 (omega arith) (omega arith) (among_first (0xA0 to 0xBF) [] b n (omega arith))) ∙ sym (a.in_three b n (omega arith))) (λ o.
      neither (inr o)))))
    where
      neither : (b < 0x80) ⊎ (0xBF < b) → within r (class b) ≡ within s b
      neither o = not-among r (class b) a.from_one a.to-three (no_later b o) ∙ sym (range_outside s b a.from_first a.to_last o)

  any-later : Alike any_later next
  any-later = record {
    from_one = omega arith;
    to-three = omega arith;
    from_first = omega arith;
    to_last = omega arith;
    in_one = λ b l h. in_yes next b (omega arith) (omega arith);
    in_two = λ b l h. in_yes next b (omega arith) (omega arith);
    in_three = λ b l h. in_yes next b (omega arith) (omega arith);
  }

  behind-e0 : Alike (3 to 3) (0xA0 to 0xBF)
  behind-e0 = record {
    from_one = omega arith;
    to-three = omega arith;
    from_first = omega arith;
    to_last = omega arith;
    in_one = λ b l h. in_under (0xA0 to 0xBF) b (omega arith);
    in_two = λ b l h. in_under (0xA0 to 0xBF) b (omega arith);
    in_three = λ b l h. in_yes (0xA0 to 0xBF) b (omega arith) (omega arith);
  }

  behind-ed : Alike (1 to 2) (0x80 to 0x9F)
  behind-ed = record {
    from_one = omega arith;
    to-three = omega arith;
    from_first = omega arith;
    to_last = omega arith;
    in_one = λ b l h. in_yes (0x80 to 0x9F) b (omega arith) (omega arith);
    in_two = λ b l h. in_yes (0x80 to 0x9F) b (omega arith) (omega arith);
    in_three = λ b l h. in_over (0x80 to 0x9F) b (omega arith);
  }

  behind-f0 : Alike (2 to 3) (0x90 to 0xBF)
  behind-f0 = record {
    from_one = omega arith;
    to-three = omega arith;
    from_first = omega arith;
    to_last = omega arith;
    in_one = λ b l h. in_under (0x90 to 0xBF) b (omega arith);
    in_two = λ b l h. in_yes (0x90 to 0xBF) b (omega arith) (omega arith);
    in_three = λ b l h. in_yes (0x90 to 0xBF) b (omega arith) (omega arith);
  }

  behind-f4 : Alike (1 to 1) (0x80 to 0x8F)
  behind-f4 = record {
    from_one = omega arith;
    to-three = omega arith;
    from_first = omega arith;
    to_last = omega arith;
    in_one = λ b l h. in_yes (0x80 to 0x8F) b (omega arith) (omega arith);
    in_two = λ b l h. in_over (0x80 to 0x8F) b (omega arith);
    in_three = λ b l h. in_over (0x80 to 0x8F) b (omega arith);
  }

  -- ---- what is wanted

  abbrev AllAlike : List Range → List Range → Type 0
  AllAlike [] [] = Unit {0}
  AllAlike [] (s ∷ ss) = ⊥
  AllAlike (r ∷ rs) [] = ⊥
  AllAlike (r ∷ rs) (s ∷ ss) = Alike r s × AllAlike rs ss

  want-alike : (rs ss : List Range) → AllAlike rs ss → (xs : List ℕ) → want rs (map class xs) ≡ want ss xs
  want-alike [] [] a xs = refl
  want-alike [] (s ∷ ss) a xs = absurd a
  want-alike (r ∷ rs) [] a xs = absurd a
  want-alike (r ∷ rs) (s ∷ ss) a [] = refl
  want-alike (r ∷ rs) (s ∷ ss) a (x ∷ xs) = rw (alike_at r s a.0 x, want-alike rs ss a.1 xs)

  -- ---- class by class

  module _ (x : ℕ) (xs : List ℕ) where
    by_row : (c : ℕ) → class x ≡ c → (rs ss : List Range) → wanted_behind rows_of_classes c ≡ some rs → wanted_behind rows x ≡ some ss → AllAlike rs ss
        → by_classes table x xs ≡ bytes x xs
    unfolding by_classes bytes
    by_row c e rs ss p q a = rw (e, p, q) (want-alike rs ss a xs)

    by-none : (c : ℕ) → class x ≡ c → wanted_behind rows_of_classes c ≡ none → wanted_behind rows x ≡ none → by_classes table x xs ≡ bytes x xs
    unfolding by_classes bytes
    by-none c e p q = rw (alike_at any_later next any-later x, e, p, q)

    at_ascii : x < 0x80 → by_classes table x xs ≡ bytes x xs
    unfolding classes rows rows_of_classes
    at_ascii h =
        by_row 0 (has x 0 (omega arith) (omega arith) (among_first (0x00 to 0x7F) [] x (omega arith) (omega arith)))
        [] [] refl (at_row 0 (row (0x00 to 0x7F) []) refl x (omega arith)) tt

    at-first-later : 0x80 ≤ x → x < 0x90 → by_classes table x xs ≡ bytes x xs
    unfolding classes rows rows_of_classes
    at-first-later l h = by-none 1 (has x 1 (omega arith) (omega arith) (among_first (0x80 to 0x8F) [] x (omega arith) (omega arith))) refl (at_none 1 refl x (omega arith))

    at-middle-later : 0x90 ≤ x → x < 0xA0 → by_classes table x xs ≡ bytes x xs
    unfolding classes rows rows_of_classes
    at-middle-later l h = by-none 2 (has x 2 (omega arith) (omega arith) (among_first (0x90 to 0x9F) [] x (omega arith) (omega arith))) refl (at_none 1 refl x (omega arith))

    at-last-later : 0xA0 ≤ x → x < 0xC0 → by_classes table x xs ≡ bytes x xs
    unfolding classes rows rows_of_classes
    at-last-later l h = by-none 3 (has x 3 (omega arith) (omega arith) (among_first (0xA0 to 0xBF) [] x (omega arith) (omega arith))) refl (at_none 1 refl x (omega arith))

    at-c0 : 0xC0 ≤ x → x < 0xC2 → by_classes table x xs ≡ bytes x xs
    unfolding classes rows rows_of_classes
    at-c0 l h = by-none 4 (has x 4 (omega arith) (omega arith) (among_first (0xC0 to 0xC1) (0xF5 to 0xFF ∷ []) x (omega arith) (omega arith))) refl (at_none 1 refl x (omega arith))

    at-c2 : 0xC2 ≤ x → x < 0xE0 → by_classes table x xs ≡ bytes x xs
    unfolding classes rows rows_of_classes
    at-c2 l h =
        by_row 5 (has x 5 (omega arith) (omega arith) (among_first (0xC2 to 0xDF) [] x (omega arith) (omega arith)))
        (any_later ∷ []) (next ∷ []) refl (at_row 1 (row (0xC2 to 0xDF) (next ∷ [])) refl x (omega arith)) (any-later, tt)

    at-e0 : 0xE0 ≤ x → x < 0xE1 → by_classes table x xs ≡ bytes x xs
    unfolding classes rows rows_of_classes
    at-e0 l h =
        by_row 6 (has x 6 (omega arith) (omega arith) (among_first (0xE0 to 0xE0) [] x (omega arith) (omega arith)))
        (3 to 3 ∷ any_later ∷ []) (0xA0 to 0xBF ∷ next ∷ []) refl (at_row 2 (row (0xE0 to 0xE0) (0xA0 to 0xBF ∷ next ∷ [])) refl x (omega arith)) (behind-e0, (any-later, tt))

    at-e1 : 0xE1 ≤ x → x < 0xED → by_classes table x xs ≡ bytes x xs
    unfolding classes rows rows_of_classes
    at-e1 l h =
        by_row 7 (has x 7 (omega arith) (omega arith) (among_first (0xE1 to 0xEC) (0xEE to 0xEF ∷ []) x (omega arith) (omega arith)))
        (any_later ∷ any_later ∷ []) (next ∷ next ∷ []) refl (at_row 3 (row (0xE1 to 0xEC) (next ∷ next ∷ [])) refl x (omega arith)) (any-later, (any-later, tt))

    at-ed : 0xED ≤ x → x < 0xEE → by_classes table x xs ≡ bytes x xs
    unfolding classes rows rows_of_classes
    at-ed l h =
        by_row 8 (has x 8 (omega arith) (omega arith) (among_first (0xED to 0xED) [] x (omega arith) (omega arith)))
        (1 to 2 ∷ any_later ∷ []) (0x80 to 0x9F ∷ next ∷ []) refl (at_row 4 (row (0xED to 0xED) (0x80 to 0x9F ∷ next ∷ [])) refl x (omega arith)) (behind-ed, (any-later, tt))

    at-ee : 0xEE ≤ x → x < 0xF0 → by_classes table x xs ≡ bytes x xs
    unfolding classes rows rows_of_classes
    at-ee l h =
        by_row 7 (has x 7 (omega arith) (omega arith) (among_second (0xE1 to 0xEC) (0xEE to 0xEF) x (omega arith) (omega arith) (omega arith)))
        (any_later ∷ any_later ∷ []) (next ∷ next ∷ []) refl (at_row 5 (row (0xEE to 0xEF) (next ∷ next ∷ [])) refl x (omega arith)) (any-later, (any-later, tt))

    at-f0 : 0xF0 ≤ x → x < 0xF1 → by_classes table x xs ≡ bytes x xs
    unfolding classes rows rows_of_classes
    at-f0 l h =
        by_row 9 (has x 9 (omega arith) (omega arith) (among_first (0xF0 to 0xF0) [] x (omega arith) (omega arith)))
        (2 to 3 ∷ any_later ∷ any_later ∷ []) (0x90 to 0xBF ∷ next ∷ next ∷ []) refl (at_row 6 (row (0xF0 to 0xF0) (0x90 to 0xBF ∷ next ∷ next ∷ [])) refl x (omega arith)) (behind-f0, (any-later, (any-later, tt)))

    at-f1 : 0xF1 ≤ x → x < 0xF4 → by_classes table x xs ≡ bytes x xs
    unfolding classes rows rows_of_classes
    at-f1 l h =
        by_row 10 (has x 10 (omega arith) (omega arith) (among_first (0xF1 to 0xF3) [] x (omega arith) (omega arith)))
        (any_later ∷ any_later ∷ any_later ∷ []) (next ∷ next ∷ next ∷ []) refl (at_row 7 (row (0xF1 to 0xF3) (next ∷ next ∷ next ∷ [])) refl x (omega arith)) (any-later, (any-later, (any-later, tt)))

    at-f4 : 0xF4 ≤ x → x < 0xF5 → by_classes table x xs ≡ bytes x xs
    unfolding classes rows rows_of_classes
    at-f4 l h =
        by_row 11 (has x 11 (omega arith) (omega arith) (among_first (0xF4 to 0xF4) [] x (omega arith) (omega arith)))
        (1 to 1 ∷ any_later ∷ any_later ∷ []) (0x80 to 0x8F ∷ next ∷ next ∷ []) refl (at_row 8 (row (0xF4 to 0xF4) (0x80 to 0x8F ∷ next ∷ next ∷ [])) refl x (omega arith)) (behind-f4, (any-later, (any-later, tt)))

    at-f5 : 0xF5 ≤ x → x < 256 → by_classes table x xs ≡ bytes x xs
    unfolding classes rows rows_of_classes
    at-f5 l h = by-none 4 (has x 4 (omega arith) (omega arith) (among_second (0xC0 to 0xC1) (0xF5 to 0xFF) x (omega arith) (omega arith) (omega arith))) refl (at_none 9 refl x (omega arith))

    no-class : 256 ≤ x → by_classes table x xs ≡ bytes x xs
    unfolding rows rows_of_classes
    no-class l = by-none unclassed (no_byte x l) refl (at_none 9 refl x (omega arith))

    reads_at : by_classes table x xs ≡ bytes x xs
    reads_at =
        under x 0x80 at_ascii (λ a.
        under x 0x90 (at-first-later a) (λ b.
        under x 0xA0 (at-middle-later b) (λ d.
        under x 0xC0 (at-last-later d) (λ e.
        under x 0xC2 (at-c0 e) (λ f.
        under x 0xE0 (at-c2 f) (λ g.
        under x 0xE1 (at-e0 g) (λ i.
        under x 0xED (at-e1 i) (λ j.
        under x 0xEE (at-ed j) (λ k.
        under x 0xF0 (at-ee k) (λ l.
        under x 0xF1 (at-f0 l) (λ m.
        under x 0xF4 (at-f1 m) (λ n.
        under x 0xF5 (at-f4 n) (λ o.
        under x 256 (at-f5 o) (λ p.
        no-class p))))))))))))))

  -- IT READS WHAT THE PAPER'S ROWS SAY
  pub reads_bytes : by_classes table ≡ bytes
  reads_bytes i x xs = reads_at x xs i

-- ---- the table of the code

abbrev first_with : List (List Range) → ℕ → ℕ → ℕ
first_with [] c b = c
first_with (rs ∷ rss) c b = cond (among rs b) c (first_with rss (suc c) b)

abbrev entries_from : ℕ → ℕ → List ℕ
entries_from zero b = []
entries_from (suc k) b = first_with classes 0 b ∷ entries_from k (suc b)

-- each byte's class
unfoldable pub table : List ℕ
table = entries_from 256 0

-- one test for all entries
pub table_ruled : Ruled table
unfolding classes table
table_ruled = by_test table refl refl

-- A BYTE HAS A CLASS EXACTLY IF IT LIES IN THE CLASS'S RANGES
pub byte_classed : (b c : ℕ) → b < 256 → c < unclassed → (class_in table b ≡ c) ↔ (in_class c b ≡ true)
byte_classed = class_rule table table_ruled

pub by-table : by_classes table ≡ bytes
by-table = reads_bytes table table_ruled

-- so what an array with its entries tells is what the paper's rows say
module _ (array text : List ℕ) {told : List ℕ} where
  pub first-by-array : told ≡ first_says (by_classes array) text → array ≡ table → told ≡ first_says bytes text
  first-by-array t e = t ∙ ap (λ a. first_says (by_classes a) text) e ∙ ap (λ look. first_says look text) by-table

  pub point-by-array : told ≡ point_says (utf8_by array) text → array ≡ table → told ≡ point_says utf8 text
  point-by-array t e =
      t ∙ ap (λ a. point_says (utf8_by a) text) e ∙ ap (λ look. point_says (record { look = look; value = number; write = sequence }) text) by-table

pub point-read-by-array : (array text : List ℕ) {p : Option Point} → p ≡ first_point (utf8_by array) text → array ≡ table → p ≡ first_point utf8 text
point-read-by-array array text t e =
    t ∙ ap (λ a. first_point (utf8_by a) text) e ∙ ap (λ look. first_point (record { look = look; value = number; write = sequence }) text) by-table
