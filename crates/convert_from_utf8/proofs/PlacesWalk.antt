-- The walk that writes a text in a page which has its code points: one place more, or an ascii beginning, and a stride of the whole text.
use mathlib.Core.Path.{◌≡◌, sym, ap, ◌∙◌}
use Prim.Native.Nat.{ℕ, ◌+◌, ◌-◌, ◌≤◌, ◌<◌}
use mathlib.Core.Bool.{true}
use mathlib.Core.List.{List, [], ◌∷◌, ◌++◌}
use lib.ListN.{length, take, drop, set, length-drop}
use lib.Seq.{length-take-le, take_all, drop-drop}
use native.Mathlib.Omega.{arith}
use Rattle.theory.specs.Reader.{cut}
use Rattle.terms.specs.Form.{converted}
use Rattle.terms.proofs.ConvertsBack.{AllWhole, none-whole, whole-none}
use Rattle.terms.proofs.WalkBySegments.{part_is}
use Rattle.terms.proofs.WalkWrites.{Met, left, passed, Wrote, wrote-room, filled-sets}
use Rattle.utf8.specs.Bytes.{bytes}
use Rattle.utf8.specs.Scalar.{utf8}
use Rattle.page.specs.Paged.{place_of, has, paged, IsPage, Keeps}
use Rattle.page.specs.Lacking.{lacking}
use Rattle.page.proofs.PlaceInTable.{only-place}
use Rattle.page.proofs.NoneLacking.{AllHad, none-had, had-none}
use Rattle.convert_point.proofs.WalkInPasses.{wrote-passes}
use Rattle.ascii.specs.Ascii.{Ascii}
use Rattle.convert_from_utf8.specs.Inside.Held.{Fits, Places}
use Rattle.convert_from_utf8.proofs.AsciiBeginning.{ascii-room, ascii-passes}
use Rattle.convert_from_utf8.proofs.HeldWalk.{ascii-reached}

module _ (table text : List ℕ) where
  -- ---- the code point that was met, of a text that the page can hold

  module _ (at n c : ℕ) (m : Met utf8 text at n c) (f : Fits table (drop at text)) where
    pub fits-has : has table c ≡ true
    fits-has =
        let h : AllHad table (m.segment ∷ cut bytes (drop (at + n) text)) = rw m.cuts at (none-had table 0 (cut bytes (drop at text)) f.1) in
        rw m.point-is at h.0

    pub fits-behind : Fits table (drop (at + n) text)
    fits-behind =
        let w : AllWhole (m.segment ∷ cut bytes (drop (at + n) text)) = rw m.cuts at (none-whole 0 (cut bytes (drop at text)) f.0) in
        let h : AllHad table (m.segment ∷ cut bytes (drop (at + n) text)) = rw m.cuts at (none-had table 0 (cut bytes (drop at text)) f.1) in
        (whole-none 0 (cut bytes (drop (at + n) text)) w.1, had-none table 0 (cut bytes (drop (at + n) text)) h.1)

  -- its place is stored
  module _ (out₀ : List ℕ) (room : length (converted utf8 (paged table) text) ≤ length out₀) (out : List ℕ) (at put : ℕ)
      (w : Wrote utf8 (paged table) text out₀ out at put) (n c : ℕ) (m : Met utf8 text at n c) where
    pub place-room : put < length out
    place-room =
        let r : 1 ≤ length (drop put out) = rw (part_is out put) at (wrote-room utf8 (paged table) text out₀ out at put w room n c m) in
        omega (arith, r, length-drop put out)

    pub place-stored : Wrote utf8 (paged table) text out₀ (set out put (place_of c table)) (at + n) (put + 1)
    place-stored =
        filled-sets (left utf8 (paged table) text) (length text) out₀ out at put w room n (place_of c table ∷ []) (passed utf8 (paged table) text at n c m)

  -- what was written so far, as a stride
  pub places : (out₀ out : List ℕ) (at put : ℕ) → Wrote utf8 (paged table) text out₀ out at put → 0 < at → Fits table (drop at text)
      → Places table text out₀ out at put
  places out₀ out at put w some f = record { passes = wrote-passes utf8 (paged table) text out₀ out at put w some; behind = f }

  -- behind a stride of `&text[at..]`
  pub places_behind : (at : ℕ) (out out' : List ℕ) (passed put : ℕ) → Places table (take (length text - at) (drop at text)) out out' passed put
      → Fits table (drop (at + passed) text)
  places_behind at out out' passed put s = rw (← drop-drop passed at text) (rw (part_is text at) at s.behind)

-- ---- a beginning of bytes below 0x80 is its own places

module _ (table : List ℕ) (p : IsPage table) (keeps : Keeps table) where
  own : (x : ℕ) → x < 0x80 → place_of x table ∷ [] ≡ x ∷ []
  own x h = ap (λ (n : ℕ). n ∷ []) (ap (λ (n : ℕ). place_of n table) (sym (keeps x h)) ∙ only-place table p x (omega arith))

  module _ (text out : List ℕ) (n : ℕ) (h : n ≤ length text) (a : Ascii text n) where
    roomy : length (converted utf8 (paged table) text) ≤ length out → n ≤ length out
    roomy = ascii-room (paged table) own text n h a out

    -- as it is copied
    pub ascii-places : length (converted utf8 (paged table) text) ≤ length out → Fits table text → 0 < n → (out' : List ℕ)
        → out' ≡ take (length out) (take n text) ++ drop (length (take n text)) out → Places table text out out' n n
    ascii-places room f some out' e =
        let l : length (take n text) ≡ n = length-take-le n text h in
        let k : length (take n text) ≤ length out = omega (arith, l, roomy room) in
        let r = ascii-reached table p keeps text n h a f.0 in
        let none : lacking table (0 + n) (cut bytes (drop n text)) ≡ [] = sym (r.same 0) ∙ f.1 in
        record {
          passes = ascii-passes (paged table) own text n h a out some out' (e ∙ rw (take_all (length out) (take n text) k, l));
          behind = (r.behind, had-none table 0 (cut bytes (drop n text)) (none-had table (0 + n) (cut bytes (drop n text)) none));
        }
