-- A refusal of a conversion from or into a page is due: there by the check, the plain walk and the most that is needed, back by the lengths.
use mathlib.Core.Path.{◌≡◌, refl, sym, ap, ap₂, ◌∙◌}
use Prim.Native.Nat.{ℕ, ◌≤◌}
use mathlib.Core.Bool.{true, false, true≢false}
use mathlib.Core.List.{List, [], ◌∷◌}
use lib.ListN.{length}
use lib.Dec.{ltb}
use borrow.Author.Tests.{ltb-false, lt-ltb, eq-eqb, le-leb}
use native.Mathlib.Omega.{arith}
use Rattle.theory.specs.Reader.{cut}
use Rattle.theory.specs.Table.{Kind}
use Rattle.theory.specs.Tally.{Entry}
use Rattle.theory.proofs.Cases.{split}
use Rattle.theory.proofs.Divisions.{cut-size}
use Rattle.terms.specs.Form.{converted}
use Rattle.terms.specs.Limits.{limit}
use Rattle.terms.specs.Strict.{damages, strictly, damaged, limited, check_says}
use Rattle.terms.specs.Told.{is_granted, if_granted}
use Rattle.terms.specs.Writing.{roomed}
use Rattle.utf8.specs.Bytes.{bytes}
use Rattle.utf8.specs.Scalar.{utf8}
use Rattle.page.specs.Paged.{paged}
use Rattle.page.specs.Lacking.{lacking, first_or, held_up_to, held_by, to_page_says}
use Rattle.page.proofs.NoneLacking.{lacking-inside}
use Rattle.page.proofs.PageRoundTrip.{page_short}
use Rattle.demand_convert.specs.Due.{due_there, due_back}
use Rattle.demand_convert.proofs.RefusalDue.{told_same}
use Rattle.demand_page.specs.Due.{due_into}

-- INTO A PAGE
module _ (table : List ℕ) (room : ℕ) (text : List ℕ) where
  abbrev form : List ℕ
  form = converted utf8 (paged table) text

  -- behind the check, which accepts: a code point is lacking, or the room is less than needed
  lacking-due : (offsets : List ℕ) → lacking table 0 (cut bytes text) ≡ offsets → is_granted (held_by offsets (roomed room form)) ≡ false
      → due_into (held_by offsets (roomed room form)) (0 ∷ []) (first_or (length text) offsets) (length text) room ≡ true
  lacking-due [] e g = split (ltb room (length form))
      (λ s. rw (s, eq-eqb (length text) (length text) refl, s, le-leb (length form) (length text) (page_short table text)))
      (λ s. absurd (true≢false (rw s at g)))
  lacking-due (offset ∷ offsets) e g =
      let l = lacking-inside table 0 (cut bytes text) offset offsets e in
      rw (lt-ltb offset (length text) (omega (arith, l, cut-size bytes text)), eq-eqb offset offset refl)

  check-due : (ds : List (Entry Kind)) → is_granted (strictly damaged ds (held_by (lacking table 0 (cut bytes text)) (roomed room form))) ≡ false
      → due_into (strictly damaged ds (held_by (lacking table 0 (cut bytes text)) (roomed room form))) (strictly damaged ds (0 ∷ [])) (held_up_to table text) (length text) room ≡ true
  check-due [] g = lacking-due (lacking table 0 (cut bytes text)) refl g
  check-due (d ∷ ds) g = told_same (damaged d)

  pub due-into : is_granted (to_page_says table room text) ≡ false
      → due_into (to_page_says table room text) (check_says bytes text) (held_up_to table text) (length text) room ≡ true
  due-into g = split (ltb limit (length text))
      (λ o. rw o)
      (λ i.
      let granted : List ℕ = held_by (lacking table 0 (cut bytes text)) (roomed room form) in
      let n : to_page_says table room text ≡ strictly damaged (damages bytes text) granted = rw i in
      let c : check_says bytes text ≡ strictly damaged (damages bytes text) (0 ∷ []) = rw i in
      ap₂ (λ (says check : List ℕ). due_into says check (held_up_to table text) (length text) room) n c
      ∙ check-due (damages bytes text) (sym (ap is_granted n) ∙ g))

-- FROM A PAGE
module _ (text form : List ℕ) (room most : ℕ) (enough : length text ≤ limit → length form ≤ most) where
  pub due-from : is_granted (limited text (roomed room form)) ≡ false → due_there (limited text (roomed room form)) (0 ∷ []) (length text) room most ≡ true
  due-from g = split (ltb limit (length text))
      (λ o. rw o)
      (λ i. rw i (split (ltb room (length form))
      (λ s. rw (s, s, le-leb (length form) most (enough (ltb-false limit (length text) i))))
      (λ s. absurd (true≢false (rw (i, s) at g)))))

-- AND BACK, where nothing but the lengths can be in the way
pub due-back : (text form : List ℕ) (room : ℕ)
    → if_granted (limited form (roomed room text)) true (due_back (limited form (roomed room text)) (length form) room (length text)) ≡ true
due-back text form room = split (ltb limit (length form))
    (λ o. rw o)
    (λ i. rw i (split (ltb room (length text)) (λ s. rw (s, s, eq-eqb (length text) (length text) refl)) (λ s. rw s)))
