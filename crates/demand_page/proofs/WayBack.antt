-- There and back, for any two conversions by what they say and write: the way back gives the text, and a refusal was due.
use mathlib.Core.Path.{◌≡◌, sym, ap, subst, ◌∙◌}
use Prim.Native.Nat.{ℕ}
use mathlib.Core.Bool.{Bool, true}
use mathlib.Core.List.{List}
use lib.ListN.{length, take}
use Rattle.terms.specs.Told.{told_refusal, if_granted}
use Rattle.terms.specs.Writing.{output_of, Writes, roomed}
use Rattle.terms.specs.Strict.{limited}
use Rattle.terms.specs.declared.Refusal.{Refusal}
use Rattle.std.specs.Prelude.{Result, Ok, Err}
use Rattle.terms.proofs.ToldBack.{no_zero}
use Rattle.demand_shared.specs.Equal.{equal}
use Rattle.demand_shared.proofs.CallWrote.{refused_as, refused_says, count-says, count-wrote}
use Rattle.demand_shared.proofs.EqualExactly.{equal-same}
use Rattle.demand_convert.specs.Due.{due_back}
use Rattle.demand_page.specs.Rounds.{Back, Round}
use Rattle.demand_page.proofs.RefusalDue.{due-back}

module _ (says to : List ℕ → List ℕ) where
  -- THE WAY BACK
  module _ (text between back : List ℕ) {back' : List ℕ} {r : Result ℕ Refusal} (w : Writes (says between) (to between) back back' r) where
    -- the answer, from what the conversion says
    abbrev answer_of : List ℕ → Bool
    answer_of l = if_granted l (equal text (to between)) (due_back l (length between) (length back) (length text))

    pub back-granted : (n : ℕ) → r ≡ Ok n → n ≡ length (to between) → (b : Bool) → b ≡ equal text (take n back') → Back says to text between back back' b
    back-granted n e long b h = record {
      answer =
          h
          ∙ ap (equal text) (count-wrote (says between) (to between) back w n e long)
          ∙ sym (ap answer_of (count-says (says between) (to between) back w n e));
      returned = w.output;
    }

    pub back-refused : (q : Refusal) → r ≡ Err q → (b : Bool) → b ≡ due_back (told_refusal q) (length between) (length back) (length text)
        → Back says to text between back back' b
    back-refused q e b h = record {
      answer = h ∙ sym (ap answer_of (refused_as (says between) (to between) back w q e) ∙ rw (no_zero q));
      returned = w.output;
    }

  -- THERE AND BACK
  module _ (says' : List ℕ → List ℕ) (text between : List ℕ) {between' : List ℕ} {r : Result ℕ Refusal} (w : Writes (says text) (to text) between between' r) where
    -- a refusal was due
    pub round-refused : (back : List ℕ) (q : Refusal) → r ≡ Err q → (b : Bool) → b ≡ true → Round says to says' text between back between' back b
    round-refused back q e b h = record { yes = h; there = w.output; returned = rw (refused_says (says text) (to text) between w q e) }

    -- what was written gives the text, where nothing but the lengths is in the way
    pub round-granted : (to' : List ℕ → List ℕ) (n : ℕ) → r ≡ Ok n → n ≡ length (to text) → (back back' : List ℕ) (b : Bool)
        → Back says' to' text (take n between') back back' b → to' (to text) ≡ text → says' (to text) ≡ limited (to text) (roomed (length back) text)
        → Round says to says' text between back between' back' b
    round-granted to' n e long back back' b h same told =
        let form : List ℕ = to text in
        let due : List ℕ → Bool = λ l. due_back l (length form) (length back) (length text) in
        let k : Back says' to' text form back back' b
        = subst (λ (l : List ℕ). Back says' to' text l back back' b) (count-wrote (says text) form between w n e long) h in
        record {
          yes =
              k.answer
              ∙ ap (λ (l : List ℕ). if_granted (says' form) (equal text l) (due (says' form))) same
              ∙ ap (λ (c : Bool). if_granted (says' form) c (due (says' form))) (equal-same text)
              ∙ ap (λ (l : List ℕ). if_granted l true (due l)) told
              ∙ due-back text form (length back);
          there = w.output;
          returned =
              k.returned
              ∙ ap (λ (l : List ℕ). output_of (says' form) l back) same
              ∙ sym (ap (λ (l : List ℕ). if_granted l (output_of (says' form) text back) back) (count-says (says text) form between w n e));
        }
