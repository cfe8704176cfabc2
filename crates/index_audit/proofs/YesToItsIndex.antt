-- What the audit says yes to: a row that begins with the text's index.
use mathlib.Core.Path.{◌≡◌}
use mathlib.Core.Logic.{◌↔◌}
use Prim.Native.Nat.{ℕ, ◌≤◌}
use mathlib.Core.Bool.{true, ◌&&◌}
use mathlib.Core.List.{List}
use lib.ListN.{length, take}
use lib.Dec.{leb}
use borrow.Author.Tests.{leb-true, le-leb}
use Rattle.theory.proofs.Cases.{both}
use Rattle.terms.specs.Limits.{limit}
use Rattle.index_checkpoint.specs.Checkpoints.{needed, index_of}
use Rattle.index_lookup.specs.Agreeing.{Indexes, AsPlain}
use Rattle.index_lookup.proofs.AnswersAsPlain.{as_plain}
use Rattle.index_audit.specs.Audits.{same, audit_says}
use Rattle.index_audit.proofs.ComparedByNumbers.{same-sound, same_refl}

-- THE AUDIT SAYS YES EXACTLY THEN, where the text is within the limit and the row is long enough
pub audit-exactly : (text row : List ℕ)
    → (audit_says text row ≡ true) ↔ ((length text ≤ limit) × (needed (length text) ≤ length row) × Indexes row text)
audit-exactly text row = (yes, no)
  where
    n : ℕ
    n = needed (length text)

    yes : audit_says text row ≡ true → (length text ≤ limit) × (n ≤ length row) × Indexes row text
    yes a =
        let b = both (leb (length text) limit && leb n (length row)) (same (take n row) (index_of text)) a in
        let c = both (leb (length text) limit) (leb n (length row)) b.0 in
        (leb-true (length text) limit c.0, leb-true n (length row) c.1, same-sound (take n row) (index_of text) b.1)

    no : (length text ≤ limit) × (n ≤ length row) × Indexes row text → audit_says text row ≡ true
    no h = rw (le-leb (length text) limit h.0, le-leb n (length row) h.1, h.2) (same_refl (index_of text))

-- so that lookup in a row that was audited answers as plain lookup
pub audit-plain : (text row : List ℕ) → audit_says text row ≡ true → AsPlain row text
audit-plain text row a = as_plain row text ((audit-exactly text row).0 a).2
