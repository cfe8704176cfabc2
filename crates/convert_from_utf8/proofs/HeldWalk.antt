-- The walk that tests whether a page has the code points of a text: what it has passed over, and what its end says.
use mathlib.Core.Path.{◌≡◌, refl, sym, ap, ◌∙◌}
use Prim.Native.Nat.{ℕ, zero, suc, ◌+◌, ◌-◌, ◌%◌, ◌≤◌, ◌<◌}
use native.Mathlib.Nat.{zero-add, add-zero, add_assoc}
use mathlib.Core.Bool.{true, false}
use mathlib.Core.List.{List, [], ◌∷◌}
use lib.ListN.{length, take, drop, length-drop, drop_of_length-le}
use lib.Seq.{drop-drop}
use native.Mathlib.Omega.{arith}
use Rattle.theory.specs.Reader.{cut}
use Rattle.theory.specs.Tally.{total, size}
use Rattle.theory.proofs.Divisions.{cut-nil, cut-size}
use Rattle.terms.specs.Strict.{damages}
use Rattle.terms.proofs.ConvertsBack.{AllWhole, none-whole, whole-none}
use Rattle.terms.proofs.WalkBySegments.{part_is}
use Rattle.terms.proofs.WalkWrites.{Met}
use Rattle.utf8.specs.Bytes.{bytes}
use Rattle.utf8.specs.Scalar.{utf8}
use Rattle.page.specs.Paged.{has, IsPage, Keeps}
use Rattle.page.specs.Lacking.{lacking, first_or, held_up_to, held_by}
use Rattle.page.proofs.PlaceInTable.{stands-has}
use Rattle.page.proofs.NoneLacking.{lacking-inside}
use Rattle.ascii.specs.Ascii.{Ascii}
use Rattle.convert_from_utf8.specs.Inside.Held.{Reached, Held}
use Rattle.convert_from_utf8.proofs.AsciiBeginning.{ascii-cut, ascii-behind}

-- ---- the walk

module _ (table text : List ℕ) where
  pub reached-start : damages bytes text ≡ [] → Reached table text 0
  reached-start none = record { inside = omega arith; same = λ at. rw (add-zero at); behind = none }

  module _ (at n c : ℕ) (m : Met utf8 text at n c) where
    pub met-size : size m.segment ≡ n
    met-size =
        let s : total size (m.segment ∷ cut bytes (drop (at + n) text)) ≡ length (drop at text) = rw m.cuts at (cut-size bytes (drop at text)) in
        omega (arith, s, cut-size bytes (drop (at + n) text), length-drop at text, length-drop (at + n) text, m.inside)

    -- the page has the code point that was met
    pub reached-next : Reached table text at → has table c ≡ true → Reached table text (at + n)
    reached-next r h =
        let w : AllWhole (m.segment ∷ cut bytes (drop (at + n) text)) = rw m.cuts at (none-whole 0 (cut bytes (drop at text)) r.behind) in
        record {
          inside = m.inside;
          same = λ b. r.same b ∙ rw (m.cuts, m.point-is, h, met-size, add_assoc b at n);
          behind = whole-none 0 (cut bytes (drop (at + n) text)) w.1;
        }

    -- or lacks it
    pub met-lacking : has table c ≡ false → (other b : ℕ) → first_or other (lacking table b (cut bytes (drop at text))) ≡ b
    met-lacking h other b = rw (m.cuts, m.point-is, h)

  module _ (at : ℕ) (r : Reached table text at) where
    -- a stride of the text from a place on
    pub reached-on : (n : ℕ) → Reached table (take (length text - at) (drop at text)) n → Reached table text (at + n)
    reached-on n q =
        let s : Reached table (drop at text) n = rw (part_is text at) at q in
        record {
          inside = omega (arith, r.inside, s.inside, length-drop at text);
          same = λ b. r.same b ∙ s.same (b + at) ∙ rw (drop-drop n at text, add_assoc b at n);
          behind = rw (← drop-drop n at text) s.behind;
        }

    pub held-end : length text ≤ at → at ≡ held_up_to table text
    held-end h =
        let e : lacking table 0 (cut bytes text) ≡ [] = r.same 0 ∙ rw (drop_of_length-le text h, cut-nil) in
        rw e (omega (arith, r.inside))

    pub held-stop : (n : ℕ) → Held table (take (length text - at) (drop at text)) n → n ≡ 0 → at ≡ held_up_to table text
    held-stop n q e =
        let s : Held table (drop at text) n = rw (part_is text at) at q in
        sym (ap (first_or (length text)) (r.same 0) ∙ s.ended e (length text) (0 + at) ∙ zero-add at)

-- ---- a beginning of bytes below 0x80

module _ (table : List ℕ) (p : IsPage table) (keeps : Keeps table) where
  ascii-had : (x : ℕ) → x < 0x80 → has table x ≡ true
  ascii-had x h = stands-has x table x (omega (arith, p.long)) (keeps x h)

  ascii-none : (text : List ℕ) (n : ℕ) → n ≤ length text → Ascii text n
      → (at : ℕ) → lacking table at (cut bytes text) ≡ lacking table (at + n) (cut bytes (drop n text))
  ascii-none text zero h a at = rw (add-zero at)
  ascii-none [] (suc n) h a at = absurd (omega arith)
  ascii-none (x ∷ xs) (suc n) h a at =
      let l : x < 0x80 = a 0 (omega arith) in
      let e : x % 0x80 ≡ x = omega arith in
      let i : at + 1 + n ≡ at + suc n = omega arith in
      rw (ascii-cut x xs l, e, ascii-had x l) (ascii-none xs n (omega arith) (λ k m. a (suc k) (omega arith)) (at + 1) ∙ rw i)

  pub ascii-reached : (text : List ℕ) (n : ℕ) → n ≤ length text → Ascii text n → damages bytes text ≡ [] → Reached table text n
  ascii-reached text n h a none = record { inside = h; same = ascii-none text n h a; behind = ascii-behind text n h a none }

-- ---- what the number of bytes says

module _ (table text : List ℕ) (n : ℕ) (e : n ≡ held_up_to table text) where
  -- a code point is lacking
  pub held-short : n < length text → (granted : List ℕ) → 10 ∷ n ∷ [] ≡ held_by (lacking table 0 (cut bytes text)) granted
  held-short h granted = go (lacking table 0 (cut bytes text)) e
    where
      go : (offsets : List ℕ) → n ≡ first_or (length text) offsets → 10 ∷ n ∷ [] ≡ held_by offsets granted
      go [] i = absurd (omega arith)
      go (offset ∷ offsets) i = rw i

  -- or none
  pub held_all : length text ≤ n → lacking table 0 (cut bytes text) ≡ []
  held_all h = go (lacking table 0 (cut bytes text)) refl e
    where
      go : (offsets : List ℕ) → lacking table 0 (cut bytes text) ≡ offsets → n ≡ first_or (length text) offsets → offsets ≡ []
      go [] q i = refl
      go (offset ∷ offsets) q i = absurd (omega (arith, lacking-inside table 0 (cut bytes text) offset offsets q, cut-size bytes text))
