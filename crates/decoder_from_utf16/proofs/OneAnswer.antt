-- Two answers that the promise of start, feed or finish allows are equal, and they leave the same.
use mathlib.Core.Path.{◌≡◌, sym, ◌∙◌}
use Prim.Native.Nat.{ℕ}
use mathlib.Core.List.{List}
use Rattle.terms.proofs.ToldBack.{told-checked, told-written}
use Rattle.decoder_shared.proofs.ToldBack.{told-total}
use Rattle.decoder_from_utf16.specs.Feeding.{Starts, Feeds, Finishes}
use Rattle.decoder_from_utf16.specs.declared.UnitDecoder.{UnitDecoder}
use Rattle.decoder_shared.specs.declared.Started.{Started}
use Rattle.decoder_shared.specs.declared.Fed.{Fed}
use Rattle.decoder_shared.specs.declared.Finished.{Finished}

pub starts-once : {room : ℕ} {q r : Started UnitDecoder} → Starts room q → Starts room r
    → q ≡ r
starts-once {q = q} {r = r} f g =
    let a = told-checked q.answer r.answer (f.answer ∙ sym g.answer) in
    let s = f.state ∙ sym g.state in
    λ i. record { answer = a i; state = s i }

pub feeds-once : {d : UnitDecoder} {piece out list out' out'' list' list'' : List ℕ} {q r : Fed UnitDecoder}
    → Feeds d piece out list out' list' q
    → Feeds d piece out list out'' list'' r
    → (q ≡ r) × (out' ≡ out'') × (list' ≡ list'')
feeds-once {q = q} {r = r} f g =
    let a = told-written q.answer r.answer (f.answer ∙ sym g.answer) in
    let s = f.state ∙ sym g.state in
    (λ i. record { answer = a i; state = s i }, f.output ∙ sym g.output, f.entries ∙ sym g.entries)

pub finishes_once : {d : UnitDecoder} {out list out' out'' list' list'' : List ℕ} {q r : Finished UnitDecoder}
    → Finishes d out list out' list' q
    → Finishes d out list out'' list'' r
    → (q ≡ r) × (out' ≡ out'') × (list' ≡ list'')
finishes_once {q = q} {r = r} f g =
    let a = told-total q.answer r.answer (f.answer ∙ sym g.answer) in
    let s = f.state ∙ sym g.state in
    (λ i. record { answer = a i; state = s i }, f.output ∙ sym g.output, f.entries ∙ sym g.entries)
