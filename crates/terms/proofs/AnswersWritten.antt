-- What writing calls answer: each way through their checks meets the promise.
use mathlib.Core.Path.{◌≡◌, sym, ap, subst, ◌∙◌}
use Prim.Native.Nat.{ℕ, ◌≤◌, ◌<◌}
use mathlib.Core.Bool.{true≢false}
use mathlib.Core.List.{List, [], ◌∷◌, ◌++◌}
use lib.ListN.{length, get_or, drop}
use lib.Dec.{ltb, eqb}
use borrow.Author.Tests.{lt-ltb, le-ltb}
use Rattle.theory.specs.Reader.{Reader}
use Rattle.theory.specs.Table.{Kind}
use Rattle.theory.specs.Tally.{Entry}
use Rattle.theory.proofs.Cases.{split}
use Rattle.terms.specs.Form.{Form, converted}
use Rattle.terms.specs.Limits.{limit}
use Rattle.terms.specs.Strict.{damages, strictly, limited}
use Rattle.terms.specs.Told.{told_refusal, told_checked, told_written}
use Rattle.terms.specs.Writing.{roomed, Writes, repair_says, convert_says}
use Rattle.terms.specs.declared.Refusal.{Refusal}
use Rattle.terms.specs.declared.Refusal.TheVariants.{OverLimit, NoRoom}
use Rattle.std.specs.Prelude.{Result, Ok, Err}
use Rattle.terms.proofs.ToldBack.{no_zero}
use Rattle.terms.proofs.ConvertsBack.{limited-granted, roomed-granted, Refuses, strictly-granted}

-- a refusal leaves the output as it was
pub refuses : (says form out : List ℕ) (r : Refusal) → told_refusal r ≡ says → Writes says form out out (Err r)
refuses says form out r e = record { answer = e; output = rw (← e, no_zero r) }

-- ---- a writer that refuses where the output has too few places

module _ (form out : List ℕ) (n : ℕ) (e : n ≡ length form) where
  pub roomed-short : length out < n → Writes (roomed (length out) form) form out out (Err (NoRoom n))
  roomed-short h =
      let l : length out < length form = rw e at h in
      refuses (roomed (length out) form) form out (NoRoom n) (rw (lt-ltb (length out) (length form) l, e))

  pub roomed-done : length form ≤ length out → (out' : List ℕ) → out' ≡ form ++ drop (length form) out
      → Writes (roomed (length out) form) form out out' (Ok n)
  roomed-done h out' o =
      let says : roomed (length out) form ≡ 0 ∷ length form ∷ [] = rw (le-ltb (length out) (length form) h) in
      record { answer = rw (says, e); output = rw (says, o) }

-- ---- repair: refusal 2, then 3, then the form is written

module _ (text form out : List ℕ) where
  pub repair-over : limit < length text → Writes (repair_says (length out) text form) form out out (Err OverLimit)
  repair-over h = refuses (repair_says (length out) text form) form out OverLimit (rw (lt-ltb limit (length text) h))

  module _ (h : length text ≤ limit) where
    pub repair-short : (needed : ℕ) → needed ≡ length form → length out < needed
        → Writes (repair_says (length out) text form) form out out (Err (NoRoom needed))
    repair-short needed e k =
        let l : length out < length form = rw e at k in
        refuses (repair_says (length out) text form) form out (NoRoom needed) (rw (le-ltb limit (length text) h, lt-ltb (length out) (length form) l, e))

    pub repair-done : (n : ℕ) (out' : List ℕ) → length form ≤ length out → n ≡ length form → out' ≡ form ++ drop (length form) out
        → Writes (repair_says (length out) text form) form out out' (Ok n)
    repair-done n out' k e o =
        let says : repair_says (length out) text form ≡ 0 ∷ length form ∷ [] = rw (le-ltb limit (length text) h, le-ltb (length out) (length form) k) in
        record { answer = rw (says, e); output = rw (says, o) }

-- of a text within the limit, repair answers as the writer does
pub repair-roomed : (text form out out' : List ℕ) (r : Result ℕ Refusal) → length text ≤ limit → Writes (roomed (length out) form) form out out' r
    → Writes (repair_says (length out) text form) form out out' r
repair-roomed text form out out' r h w =
    let same : roomed (length out) form ≡ repair_says (length out) text form = rw (le-ltb limit (length text) h) in
    subst (λ (says : List ℕ). Writes says form out out' r) same w

-- what was written is the form, and lies within the output
pub repair-count : (text form out out' : List ℕ) (r : Result ℕ Refusal) → Writes (repair_says (length out) text form) form out out' r → (n : ℕ) → r ≡ Ok n
    → (n ≡ length form) × (n ≤ length out)
repair-count text form out out' r w n e =
    let l = limited-granted text (roomed (length out) form) (sym w.answer ∙ ap told_written e) in
    let k : length form ≤ length out = roomed-granted (length out) form l.1 in
    let s : roomed (length out) form ≡ 0 ∷ length form ∷ [] = rw (le-ltb (length out) (length form) k) in
    let m : n ≡ length form = cc l.1 in
    (m, rw m k)

-- ---- a refusal does not depend on what would be granted

pub limited-refused : (text : List ℕ) {says granted granted' : List ℕ} → (says ≡ granted → says ≡ granted')
    → says ≡ limited text granted → says ≡ limited text granted'
limited-refused text f e = split (ltb limit (length text)) (λ t. rw t (rw t at e)) (λ t. rw t (f (rw t at e)))

pub strictly-refused : (refuse : Entry Kind → List ℕ) (ds : List (Entry Kind)) (granted : List ℕ) (r : Refusal)
    → told_refusal r ≡ strictly refuse ds (0 ∷ []) → told_refusal r ≡ strictly refuse ds granted
strictly-refused refuse [] granted r e = absurd (true≢false (sym (ap (λ (l : List ℕ). eqb (get_or l 0 0) 0) e) ∙ no_zero r))
strictly-refused refuse (d ∷ ds) granted r e = e

-- ---- a strict call, whatever it grants: the check's refusal, or what is granted to a text that the check accepts

module _ (refuse : Entry Kind → List ℕ) (look : Reader Kind) (text : List ℕ) where
  abbrev checking : List ℕ
  checking = limited text (strictly refuse (damages look text) (0 ∷ []))

  -- what the check accepts is within the limit
  within-limit : told_checked (Ok tt) ≡ checking → length text ≤ limit
  within-limit e = (limited-granted text (strictly refuse (damages look text) (0 ∷ [])) (sym e)).0

  module _ (granted form out : List ℕ) where
    pub check-refused : (r : Refusal) → told_checked (Err r) ≡ checking
        → Writes (limited text (strictly refuse (damages look text) granted)) form out out (Err r)
    check-refused r e =
        refuses (limited text (strictly refuse (damages look text) granted)) form out r
        (limited-refused text (strictly-refused refuse (damages look text) granted r) e)

    pub check-granted : Refuses refuse → told_checked (Ok tt) ≡ checking → (out' : List ℕ) (r : Result ℕ Refusal) → Writes granted form out out' r
        → Writes (limited text (strictly refuse (damages look text) granted)) form out out' r
    check-granted n e out' r w =
        let l = limited-granted text (strictly refuse (damages look text) (0 ∷ [])) (sym e) in
        let d = strictly-granted refuse n (damages look text) (0 ∷ []) l.1 in
        let same : granted ≡ limited text (strictly refuse (damages look text) granted) = rw (le-ltb limit (length text) l.0, d.0) in
        subst (λ (says : List ℕ). Writes says form out out' r) same w

-- ---- strict conversion: the check's refusal, or the writer's answer; repair's is the same, since there is nothing to repair

module _ (refuse : Entry Kind → List ℕ) (F G : Form) (text out : List ℕ) where
  pub strict-refused : (r : Refusal) → told_checked (Err r) ≡ checking refuse F.look text
      → Writes (convert_says refuse F G (length out) text) (converted F G text) out out (Err r)
  strict-refused = check-refused refuse F.look text (roomed (length out) (converted F G text)) (converted F G text) out

  pub accepted-within : told_checked (Ok tt) ≡ checking refuse F.look text → length text ≤ limit
  accepted-within = within-limit refuse F.look text

  pub strict-roomed : Refuses refuse → told_checked (Ok tt) ≡ checking refuse F.look text → (out' : List ℕ) (r : Result ℕ Refusal)
      → Writes (roomed (length out) (converted F G text)) (converted F G text) out out' r
      → Writes (convert_says refuse F G (length out) text) (converted F G text) out out' r
  strict-roomed = check-granted refuse F.look text (roomed (length out) (converted F G text)) (converted F G text) out

  pub strict-granted : Refuses refuse → told_checked (Ok tt) ≡ checking refuse F.look text → (out' : List ℕ) (r : Result ℕ Refusal)
      → Writes (repair_says (length out) text (converted F G text)) (converted F G text) out out' r
      → Writes (convert_says refuse F G (length out) text) (converted F G text) out out' r
  strict-granted n e out' r w =
      let same : repair_says (length out) text (converted F G text) ≡ roomed (length out) (converted F G text) = rw (le-ltb limit (length text) (accepted-within e)) in
      strict-roomed n e out' r (subst (λ (says : List ℕ). Writes says (converted F G text) out out' r) same w)
