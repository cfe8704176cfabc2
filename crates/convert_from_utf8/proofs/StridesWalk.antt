-- The strides of the writer: what a walk has written is a stride, and strides make the walk of the whole text.
use mathlib.Core.Path.{◌≡◌, sym, ap, ◌∙◌}
use Prim.Native.Nat.{ℕ, suc, ◌+◌, ◌-◌, ◌≤◌, ◌<◌}
use native.Mathlib.Nat.{add-zero}
use native.Mathlib.Numerals.{add-one}
use mathlib.Core.List.{List, [], ◌∷◌, ◌++◌, append-nil}
use lib.ListN.{length, get_or, take, drop, set, length-append, length-drop, take-append-drop}
use lib.Seq.{length-take-le, drop-drop}
use native.Mathlib.Omega.{arith}
use Rattle.terms.proofs.WalkBySegments.{part_is}
use Rattle.terms.proofs.WalkWrites.{Passed, Filled, lent, filled-room, filled-sets}
use Rattle.ascii.specs.Ascii.{Ascii}
use Rattle.convert_from_utf8.specs.Inside.Spell.{wants, spelled}
use Rattle.convert_from_utf8.specs.Inside.Stride.{Strides}
use Rattle.convert_from_utf8.proofs.SpelledByKind.{left, left_end, left-short, ascii-spells}

module _ (text out₀ : List ℕ) where
  -- what the walk has written up to a place
  abbrev pub Walked : List ℕ → ℕ → ℕ → Type 0
  Walked = Filled (left text) (length text) out₀

  -- it is a stride, where nothing is passed over only if nothing is spelled
  pub strides : (out : List ℕ) (at n : ℕ) → Walked out at n → (at ≡ 0 → spelled text ≡ []) → Strides text out₀ out at n
  strides out at n w e =
      let l : length (take n out) ≡ n = length-take-le n out (omega (arith, w.long, w.within)) in
      record {
        inside = w.inside;
        vs = take n out;
        same = sym w.form;
        puts = record { count = sym l; output = sym (take-append-drop n out) ∙ rw (w.kept, l) };
        ended = e;
      }

  module _ (room : length (spelled text) ≤ length out₀) (out : List ℕ) (at n : ℕ) (w : Walked out at n) where
    -- one unit more is stored, or the two of a pair
    pub stored_one : (k v : ℕ) → Passed (left text) (length text) at k (v ∷ []) → Walked (set out n v) (at + k) (n + 1)
    stored_one k v p = filled-sets (left text) (length text) out₀ out at n w room k (v ∷ []) p

    pub stored-two : (k u v : ℕ) → Passed (left text) (length text) at k (u ∷ v ∷ []) → Walked (set (set out n u) (n + 1) v) (at + k) (n + 2)
    stored-two k u v p = rw (add-one n) (filled-sets (left text) (length text) out₀ out at n w room k (u ∷ v ∷ []) p)

    -- there is room for it
    pub room_for : (k : ℕ) (vs : List ℕ) → Passed (left text) (length text) at k vs → n + length vs ≤ length out
    room_for k vs p =
        let r : length vs ≤ length (drop n out) = rw (part_is out n) at (filled-room (left text) (length text) out₀ out at n w room k vs p) in
        omega (arith, r, length-drop n out, w.long, w.within)

    -- and for all that is left
    pub room-left : length (spelled (take (length text - at) (drop at text))) ≤ length (lent out n)
    room-left =
        let e : left text (at + (length text - at)) ≡ [] = left_end text (at + (length text - at)) (omega arith) in
        let p : Passed (left text) (length text) at (length text - at) (left text at) =
        record { inside = omega (arith, w.inside); same = rw (e, append-nil) } in
        rw (part_is text at) (filled-room (left text) (length text) out₀ out at n w room (length text - at) (left text at) p)

-- the text ends before the first sequence does
pub cut_short : (text : List ℕ) → 0 < length text → length text < suc (wants (get_or text 0 0)) → spelled text ≡ []
cut_short text h l = left-short text 0 h (omega arith)

-- a stride of the text from a place on, in the walk
module _ (text : List ℕ) (at : ℕ) (h : at ≤ length text) (out out' : List ℕ) (n put : ℕ)
    (s : Strides (take (length text - at) (drop at text)) out out' n put) where
  pub stride-passed : Passed (left text) (length text) at n s.vs
  stride-passed =
      let i : n ≤ length (drop at text) = rw (part_is text at) at s.inside in
      record { inside = omega (arith, i, length-drop at text); same = rw (part_is text at, drop-drop n at text) at s.same }

  -- nothing is left where it passed over nothing
  pub stride-ended : n ≡ 0 → left text (at + n) ≡ []
  stride-ended e = rw (e, add-zero) (rw (part_is text at) at (s.ended e))

-- there is room for a ascii beginning
pub ascii-room : (text : List ℕ) (n : ℕ) → n ≤ length text → Ascii text n → length (take n text) ≤ length (spelled text)
ascii-room text n h p = omega (arith, ap length (ascii-spells text n h p), length-append (take n text) (left text n))

-- a ascii beginning is a stride
pub ascii_strides : (text out out' : List ℕ) (n : ℕ) → n ≤ length text → (n ≡ 0 → ⊥) → Ascii text n → out' ≡ take n text ++ drop n out
    → Strides text out out' n n
ascii_strides text out out' n h z p e =
    let l : length (take n text) ≡ n = length-take-le n text h in
    record {
      inside = h;
      vs = take n text;
      same = ascii-spells text n h p;
      puts = record { count = sym l; output = rw l e };
      ended = λ q. absurd (z q);
    }
