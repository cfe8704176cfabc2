-- The settled segment that stands first in a text: how the text divides behind it, and how many bytes the reader told of it.
use mathlib.Core.Path.{◌≡◌, refl, sym, ap, ◌∙◌}
use Prim.Native.Nat.{ℕ, suc, ◌≤◌}
use native.Mathlib.Nat.{add-zero}
use mathlib.Core.Bool.{true, false}
use mathlib.Core.List.{List, [], ◌∷◌}
use lib.ListN.{length, take, drop}
use native.Mathlib.Omega.{arith}
use Rattle.theory.specs.Reader.{Reader, parts, pending}
use Rattle.theory.specs.Reader as reader
use Rattle.theory.specs.Table.{ended, Kind, whole, damage}
use Rattle.theory.specs.Tally.{total, size}
use Rattle.theory.proofs.Cases.{split}
use Rattle.theory.proofs.Divisions.{Division, Holds, before, first-size, parts-nil, parts-sure, parts-open, left-pending, pending-short}
use Rattle.terms.specs.Limits.{most_pending}
use Rattle.terms.specs.Told.{number_of, told_first, first_says}
use Rattle.terms.specs.declared.First.{First}
use Rattle.terms.specs.declared.First.TheVariants.{Nothing, Whole, Damage, Begun}
use Rattle.terms.proofs.WalkBySegments.{Seen, seen}
use Rattle.utf8.specs.Bytes.{bytes}
use Rattle.utf8.specs.Pending.{padded}
use Rattle.utf8.proofs.RowsOfBytes.{bytes_division, bytes-hold, bytes-top}
use Rattle.utf8_pending.specs.Tail.{first_settled, settled_size}
use Rattle.utf8_pending.proofs.HeldInPlaces.{Tail, held_back, held-zeros}

-- a reader of which at most three bytes are held back, and whose segments have at most four
pub record Short {K : Type 0} (look : Reader K) : Type 0 where
  pub division : Division look
  pub hold : Holds look most_pending
  pub top : (x : ℕ) (xs : List ℕ) → (look x xs).more ≤ 3

pub bytes-short : Short bytes
bytes-short = record { division = bytes_division; hold = bytes-hold; top = bytes-top }

-- ---- by any reader: the segment, or none

module _ {K : Type 0} (look : Reader K) where
  pub settled-sure : (x : ℕ) (xs : List ℕ) → (look x xs).sure ≡ true → first_settled look (x ∷ xs) ≡ reader.first look x xs ∷ []
  unfolding first_settled
  settled-sure x xs e = rw e

  pub settled-open : (x : ℕ) (xs : List ℕ) → (look x xs).sure ≡ false → first_settled look (x ∷ xs) ≡ []
  unfolding first_settled
  settled-open x xs e = rw e

  pub settled-nil : first_settled look [] ≡ []
  unfolding first_settled
  settled-nil = refl

  -- where something is settled, there is a first byte
  pub record One (text : List ℕ) : Type 0 where
    pub head : ℕ
    pub tail : List ℕ
    pub text-is : text ≡ head ∷ tail
    pub settled_is : first_settled look text ≡ reader.first look head tail ∷ []
    pub size_is : total size (first_settled look text) ≡ size (reader.first look head tail)

  pub settled-some : (text : List ℕ) → (total size (first_settled look text) ≡ 0 → ⊥) → One text
  settled-some [] z = absurd (z (rw settled-nil))
  settled-some (x ∷ xs) z = split (look x xs).sure
      (λ e.
      let s : first_settled look (x ∷ xs) ≡ reader.first look x xs ∷ [] = settled-sure x xs e in
      record { head = x; tail = xs; text-is = refl; settled_is = s; size_is = ap (total size) s ∙ add-zero (size (reader.first look x xs)) })
      (λ e. absurd (z (rw (settled-open x xs e))))

-- ---- by a short reader: how a text divides behind it

module _ {K : Type 0} {look : Reader K} (S : Short look) where
  pub one_size : (x : ℕ) (xs : List ℕ) → total size (reader.first look x xs ∷ []) ≡ suc (look x xs).more
  one_size x xs = add-zero (size (reader.first look x xs)) ∙ first-size S.division x xs

  -- the settled segment, and then the rest of the text
  pub settled-parts : (text : List ℕ)
      → parts look text ≡ before (first_settled look text) (parts look (drop (total size (first_settled look text)) text))
  settled-parts [] = rw (settled-nil look)
  settled-parts (x ∷ xs) = split (look x xs).sure
      (λ e. parts-sure look x xs e ∙ rw (settled-sure look x xs e, one_size x xs))
      (λ e. rw (settled-open look x xs e))

  pub settled-inside : (text : List ℕ) → total size (first_settled look text) ≤ length text
  settled-inside [] = rw (settled-nil look) (omega arith)
  settled-inside (x ∷ xs) = split (look x xs).sure
      (λ e. rw (settled-sure look x xs e, one_size x xs) (omega (arith, S.division.fits x xs)))
      (λ e. rw (settled-open look x xs e) (omega arith))

  -- where nothing is settled, all of the text is left
  pub settled-none : (text : List ℕ) → total size (first_settled look text) ≡ 0
      → (first_settled look text ≡ []) × (parts look text ≡ record { done = []; left = text })
  settled-none [] z = (settled-nil look, parts-nil look)
  settled-none (x ∷ xs) z = split (look x xs).sure
      (λ e. absurd (omega (arith, ap (total size) (settled-sure look x xs e), one_size x xs)))
      (λ e. (settled-open look x xs e, parts-open look x xs e))

  -- and all of it may be pending
  pub pending-none : (text : List ℕ) → total size (first_settled look text) ≡ 0 → pending look text ≡ true
  pending-none [] z = refl
  pending-none (x ∷ xs) z = split (look x xs).sure
      (λ e. absurd (omega (arith, ap (total size) (settled-sure look x xs e), one_size x xs)))
      (λ e. rw e)

  -- what is left is short, and passes the test of pending bytes as a state keeps it
  pub left-short : (text : List ℕ) → length (parts look text).left ≤ most_pending
  left-short text = pending-short S.division most_pending S.hold (parts look text).left (left-pending look text)

  pub left-kept : (text : List ℕ) → take (length (parts look text).left) (padded (parts look text).left) ≡ (parts look text).left
  left-kept text = held_back (parts look text).left (left-short text)

  pub left-tail : (text : List ℕ) → Tail look (padded (parts look text).left) (length (parts look text).left)
  left-tail text = record {
    few = left-short text;
    begins = rw (left-kept text) (left-pending look text);
    unused = held-zeros (parts look text).left (left-short text);
  }

-- ---- what the reader of bytes told of it

seen_size : (text : List ℕ) (n : ℕ) {kind : Kind} → Seen bytes text n kind true → n ≡ total size (first_settled bytes text)
seen_size text n s =
    let e : first_settled bytes text ≡ reader.first bytes s.head s.tail ∷ [] = rw s.text-is (settled-sure bytes s.head s.tail s.sure-is) in
    s.long-is ∙ sym (ap (total size) e ∙ one_size bytes-short s.head s.tail)

pub told-size : (r : First) (text : List ℕ) → told_first r ≡ first_says bytes text → settled_size r ≡ total size (first_settled bytes text)
told-size Nothing [] e = rw (settled-nil bytes)
told-size Nothing (x ∷ xs) e = let z : ◌≡◌ {A = ℕ} 0 1 = cc in absurd (omega arith)
told-size (Whole n) text e = seen_size text n (seen bytes text n whole true e)
told-size (Damage n c) text e = seen_size text n (seen bytes text n (damage (number_of c)) true e)
told-size (Begun n) text e =
    let s = seen bytes text n (damage ended) false e in
    let z : first_settled bytes text ≡ [] = rw s.text-is (settled-open bytes s.head s.tail s.sure-is) in
    rw z
