-- Two answers that the promise of feed or finish allows are equal, and they leave the same.
use Prim.Native.Nat.{ℕ}
use mathlib.Core.Path.{◌≡◌, sym, ◌∙◌}
use mathlib.Core.List.{List}
use Rattle.terms.specs.declared.Decoder.{Decoder}
use Rattle.terms.proofs.ToldBack.{told-written}
use Rattle.decoder_shared.specs.declared.Fed.{Fed}
use Rattle.decoder_shared.specs.declared.Finished.{Finished}
use Rattle.decoder_shared.proofs.ToldBack.{told-total}
use Rattle.decoder_to_utf16.specs.Feeding.{Feeds, Finishes}

pub feeds-once : {d : Decoder} {piece out list out' out'' list' list'' : List ℕ} {q r : Fed Decoder}
    → Feeds d piece out list out' list' q
    → Feeds d piece out list out'' list'' r
    → (q ≡ r) × (out' ≡ out'') × (list' ≡ list'')
feeds-once {q = q} {r = r} f g =
    let a = told-written q.answer r.answer (f.answer ∙ sym g.answer) in
    let s = f.state ∙ sym g.state in
    (λ i. record { answer = a i; state = s i }, f.output ∙ sym g.output, f.entries ∙ sym g.entries)

pub finishes_once : {d : Decoder} {out list out' out'' list' list'' : List ℕ} {q r : Finished Decoder}
    → Finishes d out list out' list' q
    → Finishes d out list out'' list'' r
    → (q ≡ r) × (out' ≡ out'') × (list' ≡ list'')
finishes_once {q = q} {r = r} f g =
    let a = told-total q.answer r.answer (f.answer ∙ sym g.answer) in
    let s = f.state ∙ sym g.state in
    (λ i. record { answer = a i; state = s i }, f.output ∙ sym g.output, f.entries ∙ sym g.entries)
