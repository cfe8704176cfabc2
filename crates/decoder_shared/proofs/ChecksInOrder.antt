-- The checks before a call: each way through them, and what a granted one says.
use mathlib.Core.Path.{◌≡◌, sym, ap, ◌∙◌}
use Prim.Native.Nat.{ℕ, ◌+◌, ◌*◌, ◌≤◌, ◌<◌}
use mathlib.Core.Bool.{true, false, true≢false}
use mathlib.Core.List.{List, [], ◌∷◌}
use lib.Dec.{ltb}
use borrow.Author.Tests.{lt-ltb, le-ltb, ltb-false}
use Rattle.theory.proofs.Cases.{split}
use Rattle.terms.specs.Limits.{limit, entry_width}
use Rattle.terms.specs.Told.{told_refusal, is_granted}
use Rattle.terms.specs.declared.Refusal.{Refusal}
use Rattle.terms.proofs.ToldBack.{no_zero}
use Rattle.terms.proofs.Tested.{tested-unsound, tested-over, tested-then, granted-passed}
use Rattle.decoder_shared.specs.Decoding.{Decoding}
use Rattle.decoder_shared.specs.Checks.{admitted, admit_says}

module _ {S : Type 0} (D : Decoding S) (d : S) (more row : ℕ) where
  -- a state that may take the call
  pub record Admits : Type 0 where
    pub tests : D.sound d ≡ true
    pub within : (D.stands d).taken + more ≤ limit
    pub list : entry_width * (D.stands d).room ≤ row

  pub admitted-unsound : (says : List ℕ) → D.sound d ≡ false → 8 ∷ [] ≡ admitted D d more row says
  admitted-unsound says = tested-unsound (D.sound d) (D.stands d).taken more _

  pub admitted-over : (says : List ℕ) → D.sound d ≡ true → limit < (D.stands d).taken + more → 2 ∷ [] ≡ admitted D d more row says
  admitted-over says = tested-over (D.sound d) (D.stands d).taken more _

  pub admitted-list : (says : List ℕ) → D.sound d ≡ true → (D.stands d).taken + more ≤ limit → row < entry_width * (D.stands d).room
      → 7 ∷ [] ≡ admitted D d more row says
  admitted-list says s h k =
      sym (tested-then (D.sound d) (D.stands d).taken more _ s h ∙ rw (lt-ltb row (entry_width * (D.stands d).room) k))

  -- then the call has its say
  pub admitted-then : (says : List ℕ) → Admits → admitted D d more row says ≡ says
  admitted-then says a =
      tested-then (D.sound d) (D.stands d).taken more _ a.tests a.within ∙ rw (le-ltb row (entry_width * (D.stands d).room) a.list)

  -- what was granted has passed each check, and the call grants it
  pub granted-admits : (says : List ℕ) → is_granted (admitted D d more row says) ≡ true → Admits × (is_granted says ≡ true)
  granted-admits says g =
      let p = granted-passed (D.sound d) (D.stands d).taken more _ g in
      split (ltb row (entry_width * (D.stands d).room))
      (λ k. absurd (true≢false (sym (rw k at p.grants))))
      (λ k. (record { tests = p.tests; within = p.within; list = ltb-false row (entry_width * (D.stands d).room) k }, rw k at p.grants))

  pub admits : 0 ∷ [] ≡ admit_says D d more row → Admits
  admits e = (granted-admits (0 ∷ []) (ap is_granted (sym e))).0

  -- and what was refused is refused whatever the call would say
  pub refused-so : (r : Refusal) → told_refusal r ≡ admit_says D d more row → (says : List ℕ) → told_refusal r ≡ admitted D d more row says
  refused-so r e says = split (D.sound d)
      (λ s. split (ltb limit ((D.stands d).taken + more))
      (λ o. rw (s, o) at e ∙ rw (s, o))
      (λ o. split (ltb row (entry_width * (D.stands d).room))
      (λ k. rw (s, o, k) at e ∙ rw (s, o, k))
      (λ k. let q : told_refusal r ≡ 0 ∷ [] = rw (s, o, k) at e in absurd (true≢false (sym (ap is_granted q) ∙ no_zero r)))))
      (λ s. rw s at e ∙ rw s)
