-- The whole repair: what it wrote, that its refusal is due, and what is left in the lent buffers.
use mathlib.Core.Path.{◌≡◌, sym, ap, ◌∙◌}
use Prim.Native.Nat.{ℕ, ◌≤◌}
use mathlib.Core.Bool.{Bool, true, false, cond, true≢false}
use mathlib.Core.List.{List, [], ◌∷◌, ◌++◌}
use lib.ListN.{length, take, drop}
use lib.Seq.{take_at}
use lib.Dec.{ltb}
use Rattle.theory.proofs.Cases.{split}
use Rattle.terms.specs.Limits.{limit}
use Rattle.terms.specs.Told.{told_refusal, told_written, is_granted}
use Rattle.terms.specs.Writing.{roomed, output_of, Writes, repair_says}
use Rattle.terms.specs.declared.Refusal.{Refusal}
use Rattle.std.specs.Prelude.{Result, Ok, Err}
use Rattle.terms.proofs.AnswersWritten.{repair-count}
use Rattle.terms.proofs.ConvertsBack.{limited-granted}
use Rattle.terms.proofs.ToldBack.{no_zero}
use Rattle.decoder_shared.specs.Decoding.{Decoding}
use Rattle.demand_feeding.specs.Comparing.{due}
use Rattle.demand_feeding.specs.Pieces.{Lent, lent, form_of, both_fed, leaves}

module _ (text form whole : List ℕ) {whole' : List ℕ} {r : Result ℕ Refusal}
    (w : Writes (repair_says (length whole) text form) form whole whole' r) where
  abbrev says : List ℕ
  says = repair_says (length whole) text form

  pub repair-wrote : (n : ℕ) → r ≡ Ok n → take n whole' ≡ form
  repair-wrote n e =
      let k = repair-count text form whole whole' r w n e in
      ap (take n) (w.output ∙ ap (λ (l : List ℕ). output_of l form whole) (sym w.answer ∙ ap told_written e))
      ∙ take_at form (drop (length form) whole) n (sym k.0)

  pub repair-within : (n : ℕ) → r ≡ Ok n → length text ≤ limit
  repair-within n e = (limited-granted text (roomed (length whole) form) (sym w.answer ∙ ap told_written e)).0

  pub repair-due : (why : Refusal) → r ≡ Err why → due (told_refusal why) (length text) (length whole) ≡ true
  repair-due why e =
      let told : told_refusal why ≡ says = ap told_written (sym e) ∙ w.answer in
      let of : List ℕ → Bool = λ l. due l (length text) (length whole) in
      split (ltb limit (length text))
      (λ t. let over : says ≡ 2 ∷ [] = rw t in ap of (told ∙ over) ∙ t)
      (λ t. split (ltb (length whole) (length form))
      (λ s. let short : says ≡ 3 ∷ length form ∷ [] = rw (t, s) in ap of (told ∙ short) ∙ s)
      (λ s.
      let granted : says ≡ 0 ∷ length form ∷ [] = rw (t, s) in
      absurd (true≢false (sym (ap is_granted (told ∙ granted)) ∙ no_zero why))))

module _ {S : Type 0} (D : Decoding S) (room : ℕ) (text cuts few whole once once-list parts parts-list : List ℕ) {whole' : List ℕ} {r : Result ℕ Refusal}
    (w : Writes (repair_says (length whole) text (form_of D text)) (form_of D text) whole whole' r) where
  abbrev tells : List ℕ
  tells = repair_says (length whole) text (form_of D text)

  abbrev left-of : Bool → Lent
  left-of b = cond b
      (both_fed D room text cuts few (lent (output_of tells (form_of D text) whole) once once-list parts parts-list))
      (lent whole once once-list parts parts-list)

  pub leaves-granted : (n : ℕ) → r ≡ Ok n → {part o ol p pl : List ℕ}
      → lent part o ol p pl ≡ both_fed D room text cuts few (lent part once once-list parts parts-list)
      → lent whole' o ol p pl ≡ leaves D room text cuts few (lent whole once once-list parts parts-list)
  leaves-granted n e h =
      let yes : is_granted tells ≡ true = ap is_granted (sym w.answer ∙ ap told_written e) in
      ap (λ (l : Lent). lent whole' l.once l.once-list l.parts l.parts-list) h
      ∙ ap (λ (x : List ℕ). both_fed D room text cuts few (lent x once once-list parts parts-list)) w.output
      ∙ sym (ap left-of yes)

  pub leaves-refused : (q : Refusal) → r ≡ Err q
      → lent whole' once once-list parts parts-list ≡ leaves D room text cuts few (lent whole once once-list parts parts-list)
  leaves-refused q e =
      let no : is_granted tells ≡ false = ap is_granted (sym w.answer ∙ ap told_written e) ∙ no_zero q in
      let same : whole' ≡ whole
      = w.output ∙ ap (λ (b : Bool). cond b (form_of D text ++ drop (length (form_of D text)) whole) whole) no in
      ap (λ (x : List ℕ). lent x once once-list parts parts-list) same ∙ sym (ap left-of no)
