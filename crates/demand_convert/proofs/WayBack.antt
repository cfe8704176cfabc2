-- There and back: what a strict conversion wrote, that the way back gives the text, and that a refusal was due.
use mathlib.Core.Path.{◌≡◌, sym, ap, subst, ◌∙◌}
use Prim.Native.Nat.{ℕ, ◌≤◌}
use mathlib.Core.Bool.{Bool}
use mathlib.Core.List.{List, [], ◌∷◌}
use lib.ListN.{length, get_or, take}
use Rattle.theory.specs.Table.{Kind}
use Rattle.theory.specs.Tally.{Entry}
use Rattle.terms.specs.Form.{Form, converted}
use Rattle.terms.specs.Limits.{limit}
use Rattle.terms.specs.Strict.{damages, strictly, limited}
use Rattle.terms.specs.Told.{told_refusal, if_granted}
use Rattle.terms.specs.Writing.{output_of, Writes, convert_says}
use Rattle.terms.specs.declared.Refusal.{Refusal}
use Rattle.std.specs.Prelude.{Result, Ok, Err}
use Rattle.terms.proofs.ConvertsBack.{Refuses, Granted, granted-says, says-granted, there_and_back}
use Rattle.terms.proofs.FaithfulForms.{Faithful}
use Rattle.terms.proofs.ToldBack.{no_zero}
use Rattle.demand_shared.specs.Equal.{equal}
use Rattle.demand_convert.specs.Due.{due_there, due_back}
use Rattle.demand_convert.specs.Rounds.{Back, Round}
use Rattle.demand_convert.proofs.RefusalDue.{Strict, due-there, due-back}
use Rattle.demand_shared.proofs.CallWrote.{refused_as, refused_says, count-says, count-wrote}
use Rattle.demand_shared.proofs.EqualExactly.{equal-same}

-- a strict conversion that was called, and granted
module _ (refuse : Entry Kind → List ℕ) (F G : Form) (text out : List ℕ) {out' : List ℕ} {r : Result ℕ Refusal}
    (w : Writes (convert_says refuse F G (length out) text) (converted F G text) out out' r) where
  abbrev says : List ℕ
  says = convert_says refuse F G (length out) text

  module _ (refuses : Refuses refuse) (n : ℕ) (e : r ≡ Ok n) where
    says-count : says ≡ 0 ∷ n ∷ []
    says-count = count-says says (converted F G text) out w n e

    passed : Granted F G (length out) text
    passed = says-granted refuse F G (length out) text refuses says-count

    count-is : n ≡ length (converted F G text)
    count-is =
        let s : says ≡ 0 ∷ length (converted F G text) ∷ [] = granted-says refuse F G (length out) text passed in
        ap (λ (l : List ℕ). get_or l 1 0) (sym says-count ∙ s)

    pub count_fits : n ≤ length out
    count_fits = rw count-is passed.fits

    form-wrote : take n out' ≡ converted F G text
    form-wrote = count-wrote says (converted F G text) out w n e count-is

-- THE WAY BACK
module _ (refuse : Entry Kind → List ℕ) (G F : Form) (text between back : List ℕ) {back' : List ℕ} {r : Result ℕ Refusal}
    (w : Writes (convert_says refuse G F (length back) between) (converted G F between) back back' r) where
  -- the answer, from what the conversion says
  abbrev answer_of : List ℕ → Bool
  answer_of l = if_granted l (equal text (converted G F between)) (due_back l (length between) (length back) (length text))

  pub back-granted : Refuses refuse → (n : ℕ) → r ≡ Ok n → (b : Bool) → b ≡ equal text (take n back') → Back refuse G F text between back back' b
  back-granted refuses n e b h = record {
    answer =
        h
        ∙ ap (equal text) (form-wrote refuse G F between back w refuses n e)
        ∙ sym (ap answer_of (says-count refuse G F between back w refuses n e));
    returned = w.output;
  }

  pub back-refused : (q : Refusal) → r ≡ Err q → (b : Bool) → b ≡ due_back (told_refusal q) (length between) (length back) (length text)
      → Back refuse G F text between back back' b
  back-refused q e b h = record {
    answer = h ∙ sym (ap answer_of (refused_as (convert_says refuse G F (length back) between) (converted G F between) back w q e) ∙ rw (no_zero q));
    returned = w.output;
  }

-- THERE AND BACK
module _ (refuse refuse' : Entry Kind → List ℕ) (F G : Form) (text between : List ℕ) {between' : List ℕ} {r : Result ℕ Refusal}
    (w : Writes (convert_says refuse F G (length between) text) (converted F G text) between between' r) where
  -- a refusal that was asked about, where so many places are enough
  pub round-refused : Strict refuse → (back : List ℕ) (q : Refusal) → r ≡ Err q → (most : ℕ) → (length text ≤ limit → length (converted F G text) ≤ most)
      → (b : Bool) → b ≡ due_there (told_refusal q) (limited text (strictly refuse (damages F.look text) (0 ∷ []))) (length text) (length between) most
      → Round refuse refuse' F G text between back between' back b
  round-refused strict back q e most enough b h =
      let says : List ℕ = convert_says refuse F G (length between) text in
      let g = refused_says says (converted F G text) between w q e in
      record {
        yes =
            h
            ∙ sym (ap (λ (l : List ℕ). due_there l (limited text (strictly refuse (damages F.look text) (0 ∷ []))) (length text) (length between) most)
            (refused_as says (converted F G text) between w q e))
            ∙ due-there refuse strict F G (length between) text most enough g;
        there = w.output;
        returned = rw g;
      }

  pub round-granted : Faithful F → Faithful G → Refuses refuse → (n : ℕ) → r ≡ Ok n → (back back' : List ℕ) (b : Bool)
      → Back refuse' G F text (take n between') back back' b → Round refuse refuse' F G text between back between' back' b
  round-granted f g refuses n e back back' b h =
      let form : List ℕ = converted F G text in
      let says' : List ℕ = convert_says refuse' G F (length back) form in
      let clean : damages F.look text ≡ [] = (passed refuse F G text between w refuses n e).clean in
      let same : converted G F form ≡ text = there_and_back f g text clean in
      let due : Bool = due_back says' (length form) (length back) (length text) in
      let k : Back refuse' G F text form back back' b
      = subst (λ (l : List ℕ). Back refuse' G F text l back back' b) (form-wrote refuse F G text between w refuses n e) h in
      record {
        yes =
            k.answer
            ∙ ap (λ (l : List ℕ). if_granted says' (equal text l) due) same
            ∙ ap (λ (c : Bool). if_granted says' c due) (equal-same text)
            ∙ due-back f g refuse' (length back) text clean;
        there = w.output;
        returned =
            k.returned
            ∙ ap (λ (l : List ℕ). output_of says' l back) same
            ∙ sym (ap (λ (l : List ℕ). if_granted l (output_of says' text back) back) (says-count refuse F G text between w refuses n e));
      }
