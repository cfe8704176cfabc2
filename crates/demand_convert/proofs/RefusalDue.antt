-- A refusal of a strict conversion is due: on the way there by the check of the text and the most that it can need, on the way back
-- by the lengths alone.
use mathlib.Core.Path.{◌≡◌, refl, sym, ap, ap₂, ◌∙◌}
use Prim.Native.Nat.{ℕ, ◌≤◌}
use mathlib.Core.Logic.{◌↔◌}
use mathlib.Core.Bool.{Bool, true, false, true≢false}
use mathlib.Core.List.{List, [], ◌∷◌}
use lib.ListN.{length, get_or}
use lib.Dec.{ltb, eqb}
use borrow.Author.Tests.{ltb-false, eq-eqb, eqb-true, le-leb}
use Rattle.theory.specs.Table.{Kind}
use Rattle.theory.specs.Tally.{Entry}
use Rattle.theory.proofs.Cases.{split, both}
use Rattle.terms.specs.Form.{Form, converted}
use Rattle.terms.specs.Limits.{limit}
use Rattle.terms.specs.Strict.{damages, strictly, limited}
use Rattle.std.specs.Prelude.{Result, Ok, Err}
use Rattle.terms.specs.declared.Refusal.{Refusal}
use Rattle.terms.proofs.ToldBack.{back_refusal, refusal_back, no_zero}
use Rattle.terms.specs.Told.{told_refusal, told_checked, is_granted, if_granted}
use Rattle.terms.specs.Writing.{roomed, convert_says}
use Rattle.terms.proofs.ConvertsBack.{converted-whole, there_and_back}
use Rattle.terms.proofs.FaithfulForms.{Faithful}
use Rattle.demand_convert.specs.Due.{same_told, is_strict, due_there, due_back}

pub told_same : (says : List ℕ) → same_told says says ≡ true
told_same says = rw (same 0, same 1, same 2, same 3)
  where
    same : (n : ℕ) → eqb (get_or says n 0) (get_or says n 0) ≡ true
    same n = eq-eqb (get_or says n 0) (get_or says n 0) refl

-- and only of the same refusal
told-only : (why q : Refusal) → same_told (told_refusal why) (told_refusal q) ≡ true → why ≡ q
unfolding back_refusal
told-only why q e =
    let value : Refusal → ℕ → ℕ = λ r i. get_or (told_refusal r) i 0 in
    let is : (i : ℕ) → eqb (value why i) (value q i) ≡ true → value why i ≡ value q i = λ i. eqb-true (value why i) (value q i) in
    let m = both _ (eqb (value why 3) (value q 3)) e in
    let l = both _ (eqb (value why 2) (value q 2)) m.0 in
    let k = both (eqb (value why 0) (value q 0)) (eqb (value why 1) (value q 1)) l.0 in
    let back : back_refusal (told_refusal why) ≡ back_refusal (told_refusal q) = rw (is 0 k.0, is 1 k.1, is 2 l.1, is 3 m.1) in
    sym (refusal_back why) ∙ back ∙ refusal_back q

-- so a test that says yes exactly where the check refuses so is the comparison
pub refused-so : {r : Bool} (why : Refusal) (check : Result (Unit {0}) Refusal) → (r ≡ true) ↔ (check ≡ Err why)
    → r ≡ same_told (told_refusal why) (told_checked check)
refused-so {r} why (Ok u) h = split r
    (λ t. absurd (ok_err u why (h.0 t)))
    (λ t. t ∙ rw (no_zero why))
  where
    ok_err : (v : Unit {0}) (q : Refusal) → ◌≡◌ {A = Result (Unit {0}) Refusal} (Ok v) (Err q) → ⊥
    ok_err v q e = cc
refused-so {r} why (Err q) h = split r
    (λ t. t ∙ sym (ap (λ (x : Refusal). same_told (told_refusal why) (told_refusal x)) (err_is q why (h.0 t)) ∙ told_same (told_refusal why)))
    (λ t. t ∙ split (same_told (told_refusal why) (told_refusal q))
    (λ s. absurd (true≢false (sym (h.1 (ap (λ (x : Refusal). Err x) (sym (told-only why q s)))) ∙ t)))
    (λ s. sym s))
  where
    err_is : (x y : Refusal) → ◌≡◌ {A = Result (Unit {0}) Refusal} (Err x) (Err y) → x ≡ y
    err_is x y e = cc

-- damage is refused by number 1 or 9
abbrev pub Strict : (Entry Kind → List ℕ) → Type 0
Strict refuse = (e : Entry Kind) → is_strict (refuse e) ≡ true

-- THERE
module _ (refuse : Entry Kind → List ℕ) (strict : Strict refuse) (F G : Form) (room : ℕ) (text : List ℕ) (most : ℕ)
    (enough : length text ≤ limit → length (converted F G text) ≤ most) where
  pub due-there : is_granted (convert_says refuse F G room text) ≡ false
      → due_there (convert_says refuse F G room text) (limited text (strictly refuse (damages F.look text) (0 ∷ []))) (length text) room most ≡ true
  due-there h = split (ltb limit (length text))
      (λ o. rw o)
      (λ i.
      let n : convert_says refuse F G room text ≡ strictly refuse (damages F.look text) (roomed room (converted F G text)) = rw i in
      let c : limited text (strictly refuse (damages F.look text) (0 ∷ [])) ≡ strictly refuse (damages F.look text) (0 ∷ []) = rw i in
      ap₂ (λ (says check : List ℕ). due_there says check (length text) room most) n c
      ∙ go (damages F.look text) (ltb-false limit (length text) i) (sym (ap is_granted n) ∙ h))
    where
      go : (es : List (Entry Kind)) → length text ≤ limit → is_granted (strictly refuse es (roomed room (converted F G text))) ≡ false
          → due_there (strictly refuse es (roomed room (converted F G text))) (strictly refuse es (0 ∷ [])) (length text) room most ≡ true
      go [] l g = split (ltb room (length (converted F G text)))
          (λ s. rw (s, s, le-leb (length (converted F G text)) most (enough l)))
          (λ s. absurd (true≢false (rw s at g)))
      go (e ∷ es) l g = rw (strict e) (told_same (refuse e))

-- AND BACK
module _ {F G : Form} (f : Faithful F) (g : Faithful G) (refuse : Entry Kind → List ℕ) (room : ℕ) (text : List ℕ) where
  abbrev says : List ℕ
  says = convert_says refuse G F room (converted F G text)

  pub due-back : damages F.look text ≡ [] → if_granted says true (due_back says (length (converted F G text)) room (length text)) ≡ true
  due-back clean = split (ltb limit (length (converted F G text)))
      (λ o. rw o)
      (λ i.
      rw (i, converted-whole f g text, there_and_back f g text clean)
      (split (ltb room (length text)) (λ s. rw (s, s, eq-eqb (length text) (length text) refl)) (λ s. rw s)))
