-- That what is pending is exactly nothing or a proper beginning of a well-formed sequence, for any table whose rows do not meet.
use mathlib.Core.Path.{◌≡◌, refl, sym, ap, ◌∙◌}
use mathlib.Core.Logic.{◌↔◌, inl, inr}
use Prim.Native.Nat.{ℕ, zero, ◌<◌}
use mathlib.Core.Bool.{true, false, true≢false}
use mathlib.Core.List.{List, [], ◌∷◌, ◌++◌, append-nil, cons≢nil}
use lib.ListN.{length, length-append}
use lib.Seq.{take-length}
use borrow.Author.Tests.{not-true}
use native.Mathlib.Omega.{arith}
use Rattle.theory.specs.Reader.{Look, pending}
use Rattle.theory.specs.Table.{Row, Kind, whole, read}
use Rattle.theory.specs.Sequence.{Sequence, ProperBeginning, Pending}
use Rattle.theory.proofs.Cases.{split}
use Rattle.theory.proofs.Divisions.{takes_all}
use Rattle.theory.proofs.TableDivides.{widest, table-division, table-holds}
use Rattle.theory.proofs.OneDivision.{Sound, unsure-begun}
use Rattle.theory.proofs.SequencesAreWhole.{read-sequence}

module _ (rows : List Row) (cause : ℕ → ℕ) (s : Sound zero rows) where
  read_all : (x : ℕ) (xs : List ℕ) → Sequence rows (x ∷ xs) → read rows cause x xs ≡ record { more = length xs; tag = whole; sure = true }
  read_all x xs m = rw append-nil at (read-sequence rows cause s x xs [] m)

  -- what is not sure is no sequence yet: others are missing
  some-missing : (x : ℕ) (xs others : List ℕ) → (read rows cause x xs).sure ≡ false → Sequence rows (x ∷ (xs ++ others)) → 0 < length others
  some-missing x xs [] e m =
      let q : Sequence rows (x ∷ xs) = rw append-nil at m in
      absurd (true≢false (sym (ap (λ (l : Look Kind). l.sure) (read_all x xs q)) ∙ e))
  some-missing x xs (o ∷ os) e m = omega arith

  unsure-begins : (x : ℕ) (xs : List ℕ) → (read rows cause x xs).sure ≡ false → ProperBeginning rows (x ∷ xs)
  unsure-begins x xs e =
      let n : (read rows cause x xs).more ≡ length xs = takes_all (table-division rows cause) (widest rows) (table-holds rows cause) x xs e in
      let b = unsure-begun rows cause s x xs e in
      let m : Sequence rows (x ∷ (xs ++ b.others)) = rw (n, take-length xs) at b.sequence in
      record { some = omega arith; others = b.others; missing = some-missing x xs b.others e m; sequence = m }

  -- were it sure, it would stand when the others come, and they belong to the segment
  begins-unsure : (x : ℕ) (xs : List ℕ) → ProperBeginning rows (x ∷ xs) → (read rows cause x xs).sure ≡ false
  begins-unsure x xs p = split (read rows cause x xs).sure
      (λ e.
      let r : read rows cause x xs ≡ record { more = length (xs ++ p.others); tag = whole; sure = true }
      = sym ((table-division rows cause).stable x xs p.others e) ∙ read_all x (xs ++ p.others) p.sequence in
      let n : (read rows cause x xs).more ≡ length (xs ++ p.others) = ap (λ (l : Look Kind). l.more) r in
      absurd (omega (arith, n, (table-division rows cause).fits x xs, length-append xs p.others, p.missing)))
      (λ e. e)

  -- PENDING IS EXACTLY THAT
  pub pending-exactly : (xs : List ℕ) → (pending (read rows cause) xs ≡ true) ↔ Pending rows xs
  pending-exactly xs = (to xs, from xs)
    where
      to : (xs : List ℕ) → pending (read rows cause) xs ≡ true → Pending rows xs
      to [] p = inl refl
      to (x ∷ xs) p = inr (unsure-begins x xs (not-true (read rows cause x xs).sure p))

      from : (xs : List ℕ) → Pending rows xs → pending (read rows cause) xs ≡ true
      from [] a = refl
      from (x ∷ xs) (inl e) = absurd (cons≢nil e)
      from (x ∷ xs) (inr p) = rw (begins-unsure x xs p)

  -- and a proper beginning is no sequence yet
  pub no-sequence-yet : (xs : List ℕ) → ProperBeginning rows xs → Sequence rows xs → ⊥
  no-sequence-yet [] p m = omega (arith, p.some)
  no-sequence-yet (x ∷ xs) p m = true≢false (sym (ap (λ (l : Look Kind). l.sure) (read_all x xs m)) ∙ begins-unsure x xs p)
