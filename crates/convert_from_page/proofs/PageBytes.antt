-- A page text as UTF-8 bytes, byte by byte: the number of each, those below 0x80 as they are, and at most three bytes of each.
use mathlib.Core.Path.{◌≡◌, refl, ap, ◌∙◌}
use Prim.Native.Nat.{ℕ, zero, suc, ◌*◌, ◌≤◌, ◌<◌}
use native.Mathlib.Numerals.{add-one}
use mathlib.Core.List.{List, [], ◌∷◌, ◌++◌, append_assoc}
use lib.ListN.{length, get_or, take, drop, length-append}
use lib.Seq.{drop-cons}
use lib.Dec.{ltb}
use borrow.Author.Tests.{lt-ltb, ltb-true}
use native.Mathlib.Omega.{arith}
use Rattle.theory.specs.Reader.{first}
use Rattle.theory.specs.Tally.{size}
use Rattle.theory.proofs.Cases.{split}
use Rattle.theory.proofs.Divisions.{cut-nil, cut-cons}
use Rattle.terms.specs.Form.{point_of, converted}
use Rattle.terms.proofs.WalkWrites.{Passed, left}
use Rattle.ascii.specs.Ascii.{Ascii}
use Rattle.utf8.specs.Scalar.{sequence, utf8}
use Rattle.utf8.proofs.FaithfulForm.{is_one}
use Rattle.page.specs.Paged.{single, paged, Keeps}
use Rattle.convert_point.proofs.Enough.{converted-few, three-at-most}
use Rattle.convert_from_page.specs.Inside.Units.{AreUnits}

-- no number takes no byte
pub one-at-least : (c : ℕ) → 1 ≤ length (sequence c)
one-at-least c = split (ltb c 0x80)
    (λ e. rw e (omega arith))
    (λ e. rw e (split (ltb c 0x800) (λ f. rw f (omega arith)) (λ f. rw f (split (ltb c 0x10000) (λ g. rw g (omega arith)) (λ g. rw g (omega arith))))))

module _ (table : List ℕ) where
  abbrev form : List ℕ → List ℕ
  form = converted (paged table) utf8

  form-nil : form [] ≡ []
  form-nil = rw cut-nil

  -- any element of a text is a segment
  form-cons : (x : ℕ) (xs : List ℕ) → form (x ∷ xs) ≡ sequence (point_of (paged table) (first single x xs)) ++ form xs
  unfolding single
  form-cons x xs = rw cut-cons

  pub byte-form : (x : ℕ) (xs : List ℕ) → x < 256 → form (x ∷ xs) ≡ sequence (get_or table x 0) ++ form xs
  unfolding single
  byte-form x xs h = form-cons x xs ∙ rw (lt-ltb x 256 h)

  -- the form of a text is that of its beginning, and then that of the rest
  pub form-parts : (text : List ℕ) (n : ℕ) → form text ≡ form (take n text) ++ form (drop n text)
  unfolding single
  form-parts text zero = rw form-nil
  form-parts [] (suc n) = rw form-nil
  form-parts (x ∷ xs) (suc n) = form-cons x xs ∙ rw (form-parts xs n, form-cons x (take n xs), append_assoc)

  -- a byte in a walk over the text
  pub passed-byte : (text : List ℕ) (at : ℕ) → at < length text → get_or text at 0 < 256
      → Passed (left (paged table) utf8 text) (length text) at 1 (sequence (get_or table (get_or text at 0) 0))
  passed-byte text at h b = record {
    inside = omega arith;
    same = ap form (drop-cons text at 0 h) ∙ byte-form (get_or text at 0) (drop (suc at) text) b ∙ rw (add-one at);
  }

  -- bytes below 0x80 are their own bytes
  pub ascii-form : Keeps table → (text : List ℕ) (n : ℕ) → n ≤ length text → Ascii text n → form text ≡ take n text ++ form (drop n text)
  ascii-form keeps text zero h p = refl
  ascii-form keeps [] (suc n) h p = absurd (omega arith)
  ascii-form keeps (x ∷ xs) (suc n) h p =
      let l : x < 0x80 = p 0 (omega arith) in
      byte-form x xs (omega arith)
      ∙ rw (keeps x l, is_one x l) (ap (λ (r : List ℕ). x ∷ r) (ascii-form keeps xs n (omega arith) (λ k m. p (suc k) (omega arith))))

  -- no byte takes more than three
  three-of : AreUnits table → (x : ℕ) (xs : List ℕ) → length (sequence (point_of (paged table) (first single x xs))) ≤ 3 * size (first single x xs)
  unfolding single
  three-of units x xs = split (ltb x 256)
      (λ t. rw t (omega (arith, three-at-most (get_or table x 0) (units x (ltb-true x 256 t)))))
      (λ t. rw t (omega arith))

  pub three-each : AreUnits table → (text : List ℕ) → length (form text) ≤ 3 * length text
  three-each units = converted-few (paged table) utf8 3 (three-of units)

  -- an element writes something
  pub some_left : (text : List ℕ) (at : ℕ) → at < length text → 1 ≤ length (left (paged table) utf8 text at)
  some_left text at h =
      rw (drop-cons text at 0 h, form-cons (get_or text at 0) (drop (suc at) text), length-append)
      (omega (arith, one-at-least (point_of (paged table) (first single (get_or text at 0) (drop (suc at) text)))))
