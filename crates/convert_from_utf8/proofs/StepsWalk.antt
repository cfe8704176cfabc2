-- The steps of the writer of code points: one code point, or an ascii beginning; and a step of the text from a place on, in the walk.
use mathlib.Core.Path.{◌≡◌, refl, sym, ap, ◌∙◌}
use Prim.Native.Nat.{ℕ, ◌+◌, ◌-◌, ◌≤◌, ◌<◌}
use native.Mathlib.Nat.{zero-add}
use mathlib.Core.List.{List, [], ◌∷◌, ◌++◌}
use lib.ListN.{length, take, drop, set}
use lib.Seq.{drop-drop}
use Rattle.theory.specs.Reader.{cut}
use Rattle.terms.specs.Form.{converted, point_says}
use Rattle.terms.specs.Strict.{damages}
use Rattle.terms.proofs.ConvertsBack.{AllWhole, none-whole, whole-none}
use Rattle.terms.proofs.WalkBySegments.{part_is}
use Rattle.terms.proofs.WalkWrites.{met}
use Rattle.ascii.specs.Ascii.{Ascii}
use Rattle.utf8.specs.Bytes.{bytes}
use Rattle.utf8.specs.Scalar.{utf8}
use Rattle.utf8.proofs.FaithfulForm.{utf8-faithful}
use Rattle.code_points.specs.Points.{code_points}
use Rattle.convert_point.proofs.PointWritten.{puts_sets}
use Rattle.convert_point.proofs.WalkInPasses.{point-room, point-passes}
use Rattle.convert_from_utf8.specs.Inside.Step.{Steps}
use Rattle.convert_from_utf8.proofs.AsciiBeginning.{ascii-room, ascii-passes, ascii-behind}

-- ---- the steps

module _ (text : List ℕ) (none : damages bytes text ≡ []) (out : List ℕ) (room : length (converted utf8 code_points text) ≤ length out) where
  -- one code point
  module _ (some : 0 < length text) (n c : ℕ) (told : c ∷ n ∷ [] ≡ point_says utf8 text) where
    pub room-one : 1 ≤ length out
    room-one = point-room utf8-faithful code_points text some n c told out room

    pub one-steps : Steps text out (set out 0 c) n 1
    one-steps =
        let m = met utf8-faithful text 0 some n c (told ∙ ap (point_says utf8) (sym (part_is text 0))) in
        let w : AllWhole (m.segment ∷ cut bytes (drop (0 + n) text)) = rw m.cuts at (none-whole 0 (cut bytes text) none) in
        record {
          passes = point-passes utf8-faithful code_points text some n c told out (set out 0 c) 1 (puts_sets (c ∷ []) (c ∷ []) out refl room-one);
          behind = rw (← zero-add n) (whole-none 0 (cut bytes (drop (0 + n) text)) w.1);
        }

  -- n bytes below 0x80, which are their own code points
  module _ (n : ℕ) (h : n ≤ length text) (p : Ascii text n) where
    pub room-ascii : n ≤ length out
    room-ascii = ascii-room code_points (λ x l. refl) text n h p out room

    pub ascii-steps : 0 < n → (out' : List ℕ) → out' ≡ take n text ++ drop n out → Steps text out out' n n
    ascii-steps some out' e = record { passes = ascii-passes code_points (λ x l. refl) text n h p out some out' e; behind = ascii-behind text n h p none }

-- behind a step of `&text[at..]` there is no damage either
pub behind-step : (text : List ℕ) (at : ℕ) (out out' : List ℕ) (passed put : ℕ) → Steps (take (length text - at) (drop at text)) out out' passed put
    → damages bytes (drop (at + passed) text) ≡ []
behind-step text at out out' passed put s = rw (← drop-drop passed at text) (rw (part_is text at) at s.behind)
