-- What a call that writes told and wrote, whatever it says: it refused, or it granted and the form stands at the start of the output.
use mathlib.Core.Path.{◌≡◌, sym, ap, ◌∙◌}
use Prim.Native.Nat.{ℕ}
use mathlib.Core.Bool.{false}
use mathlib.Core.List.{List, [], ◌∷◌, ◌++◌}
use lib.ListN.{length, take, drop}
use lib.Seq.{take_at}
use Rattle.terms.specs.Told.{told_refusal, told_written, is_granted}
use Rattle.terms.specs.Writing.{output_of, Writes}
use Rattle.terms.specs.declared.Refusal.{Refusal}
use Rattle.std.specs.Prelude.{Result, Ok, Err}
use Rattle.terms.proofs.ToldBack.{no_zero}

module _ (says form out : List ℕ) {out' : List ℕ} {r : Result ℕ Refusal} (w : Writes says form out out' r) where
  pub refused_as : (q : Refusal) → r ≡ Err q → says ≡ told_refusal q
  refused_as q e = sym w.answer ∙ ap told_written e

  pub refused_says : (q : Refusal) → r ≡ Err q → is_granted says ≡ false
  refused_says q e = ap is_granted (refused_as q e) ∙ no_zero q

  module _ (n : ℕ) (e : r ≡ Ok n) where
    pub count-says : says ≡ 0 ∷ n ∷ []
    count-says = sym w.answer ∙ ap told_written e

    pub count-wrote : n ≡ length form → take n out' ≡ form
    count-wrote long =
        let o : out' ≡ form ++ drop (length form) out = w.output ∙ ap (λ (l : List ℕ). output_of l form out) count-says in
        ap (take n) o ∙ take_at form (drop (length form) out) n (sym long)
