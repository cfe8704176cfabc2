-- The viewer's numbers, which stand for the refusal numbers.
use Rattle.std.specs.Prelude.{◌≡◌, ℕ, ◌+◌, ◌*◌, ◌-◌, ◌≤◌, cond, List, length, get_or, eqb}
use Rattle.terms.specs.Form.{repaired}
use Rattle.terms.specs.Limits.{limit}
use Rattle.terms.specs.Told.{told_refusal}
use Rattle.terms.specs.declared.Refusal.{Refusal}
use Rattle.terms.specs.Strict.{check_says}
use Rattle.terms.specs.Writing.{repair_says, output_of}
use Rattle.utf8.specs.Bytes.{bytes}
use Rattle.utf8.specs.Scalar.{utf8}

-- the largest 64-bit number
abbrev pub largest : ℕ
largest = 18446744073709551615

-- check: 0 if well-formed, 4 × start + length of the first damage on 1, the largest on 2
abbrev pub check_number : List ℕ → ℕ
check_number says = cond (eqb (get_or says 0 0) 0) 0 (cond (eqb (get_or says 0 0) 1) (4 * get_or says 1 0 + get_or says 2 0) largest)

abbrev pub check_reply : List ℕ → ℕ
check_reply text = check_number (check_says bytes text)

-- a damage of a text within the limit
abbrev pub Small : Refusal → Type 0
Small r = (get_or (told_refusal r) 1 0 ≤ limit) × (get_or (told_refusal r) 2 0 ≤ limit)

-- repair: the bytes written, the largest on 2, one less on 3
abbrev pub repair_number : List ℕ → ℕ
repair_number says = cond (eqb (get_or says 0 0) 0) (get_or says 1 0) (cond (eqb (get_or says 0 0) 3) (largest - 1) largest)

pub record Repairs (text out out' : List ℕ) (r : ℕ) : Type 0 where
  pub reply : r ≡ repair_number (repair_says (length out) text (repaired utf8 text))
  pub output : out' ≡ output_of (repair_says (length out) text (repaired utf8 text)) (repaired utf8 text) out
