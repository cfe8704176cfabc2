-- Calls that write a form of a text into a lent output: what they answer, and what the output then holds.
use Rattle.std.specs.Prelude.{◌≡◌, ℕ, cond, List, [], ◌∷◌, ◌++◌, length, drop, ltb, Result}
use Rattle.theory.specs.Tally.{Entry}
use Rattle.theory.specs.Table.{Kind}
use Rattle.terms.specs.Form.{Form, converted}
use Rattle.terms.specs.Strict.{damages, strictly, limited}
use Rattle.terms.specs.Told.{told_written, if_granted}
use Rattle.terms.specs.declared.Refusal.{Refusal}

-- refusal 3 with the need, the length of the form, where the output has fewer places; or how many were written
abbrev pub roomed : ℕ → List ℕ → List ℕ
roomed room form = cond (ltb room (length form)) (3 ∷ length form ∷ []) (0 ∷ length form ∷ [])

-- a refusal leaves the output as it was; else the form stands at its start, and the places behind keep what they held
abbrev pub output_of : List ℕ → List ℕ → List ℕ → List ℕ
output_of says form out = if_granted says (form ++ drop (length form) out) out

-- what a writing call promises: its answer, and the output
pub record Writes (says form out out' : List ℕ) (r : Result ℕ Refusal) : Type 0 where
  pub answer : told_written r ≡ says
  pub output : out' ≡ output_of says form out

-- REPAIR: refusal 2, then 3
abbrev pub repair_says : ℕ → List ℕ → List ℕ → List ℕ
repair_says room text form = limited text (roomed room form)

-- STRICT CONVERSION: refusal 2, then the first damage, then 3
abbrev pub convert_says : (Entry Kind → List ℕ) → Form → Form → ℕ → List ℕ → List ℕ
convert_says refuse F G room text = limited text (strictly refuse (damages F.look text) (roomed room (converted F G text)))
