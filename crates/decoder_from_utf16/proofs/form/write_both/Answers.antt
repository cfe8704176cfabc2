-- `form::write_both` meets its contract: the second text behind the places of the first, and then the first.
use Prim.Native.Nat.{ℕ, ◌*◌, ◌≤◌}
use mathlib.Core.Path.{◌≡◌, sym, ap, ◌∙◌}
use mathlib.Core.List.{List, [], ◌∷◌}
use lib.ListN.{length}
use native.Mathlib.Omega.{arith}
use Rattle.theory.proofs.Divisions.{cut-nil}
use Rattle.terms.specs.Form.{converted}
use Rattle.terms.specs.Limits.{limit}
use Rattle.terms.specs.Told.{told_written}
use Rattle.terms.proofs.AnswersWritten.{repair-count}
use Rattle.utf8.specs.Scalar.{utf8}
use Rattle.utf16.specs.Scalar.{utf16}
use Rattle.convert_point.specs.declared.Target.TheVariants.{Bytes, Units}
use Rattle.convert_point.proofs.Enough.{text_few}
use Rattle.decoder_shared.proofs.FormsJoined.{needed_is, both-alone, both-short, both-refused, both-done}
use Rattle.decoder_from_utf16.proofs.form.write_both.Goals as goal

abbrev form_of : List ℕ → List ℕ
form_of text = converted utf16 utf8 text

-- no more than three bytes for each unit
small : (text : List ℕ) → length text ≤ limit → length (form_of text) ≤ 3 * limit
small text h = omega (arith, h, text_few Units Bytes text)

nothing : (text : List ℕ) → length text ≡ 0 → form_of text ≡ []
nothing [] e = rw (cut-nil utf16.look)
nothing (x ∷ xs) e = absurd (omega arith)

pub returns-then-head-eq0 : goal.returns-then-head-eq0
returns-then-head-eq0 c =
    let a = c.args in
    both-alone (form_of a.head.now) (form_of a.rest.now) a.out.now a.rest.now c.requires.1 (nothing a.head.now c.if-head-eq0.true) _ _
    c.repair_to_bytes.ensures

pub overflow_add-result : goal.overflow_add-result
overflow_add-result c =
    omega (arith, c.places-at.ensures, c.places.ensures, small c.args.head.now c.requires.0, small c.args.rest.now c.requires.1)

pub returns-then-out-at : goal.returns-then-out-at
returns-then-out-at c =
    let a = c.args in
    both-short (form_of a.head.now) (form_of a.rest.now) a.out.now c.places-at.result c.places-at.ensures c.if-out-at.true _ c.places.ensures

pub overflow_add-result-in-Ok : goal.overflow_add-result-in-Ok
overflow_add-result-in-Ok c =
    let rest = c.args.rest.now in
    let n = repair-count rest (form_of rest) _ _ c.repair_to_bytes-2.result c.repair_to_bytes-2.ensures _ c.in-Ok.is in
    omega (arith, n.0, c.places-at.ensures, small c.args.head.now c.requires.0, small rest c.requires.1)

pub overflow_add-result-in-Err : goal.overflow_add-result-in-Err
overflow_add-result-in-Err c =
    let rest = c.args.rest.now in
    let e = needed_is rest (form_of rest) _ c.requires.1 c.in-Err.why (sym (ap told_written c.in-Err.is) ∙ c.repair_to_bytes-2.ensures.answer) in
    omega (arith, c.first_value.ensures, e.0, c.places-at.ensures, small c.args.head.now c.requires.0, small rest c.requires.1)

pub returns-in-Ok : goal.returns-in-Ok
returns-in-Ok c =
    let a = c.args in
    both-done (form_of a.head.now) (form_of a.rest.now) a.out.now c.places-at.result c.places-at.ensures c.if-out-at.false a.rest.now _ c.requires.1 _
    (rw c.in-Ok.is at c.repair_to_bytes-2.ensures) a.head.now _ c.requires.0 _ c.repair_to_bytes-in-Ok.ensures

pub returns-in-Err : goal.returns-in-Err
returns-in-Err c =
    let a = c.args in
    both-refused (form_of a.head.now) (form_of a.rest.now) a.out.now c.places-at.result c.places-at.ensures c.if-out-at.false a.rest.now _ c.requires.1
    c.in-Err.why (rw c.in-Err.is at c.repair_to_bytes-2.ensures) _ c.first_value.ensures
